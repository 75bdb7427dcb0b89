-- The laws, from the lemmas. Assumes nothing.
use Rattle.crc.proofs.Linear.{crc-append}
use Rattle.crc.proofs.Lawful.{closed_gives_zero, zero_only_if_closed, is_linear}
use Rattle.crc.proofs.Lawful.{shows_a_changed_burst, shows_a_changed_byte}
use Rattle.crc.proofs.crc64_is_lawful.Goals as goal

pub returns : goal.returns
returns c =
    record {
      parts = crc-append;
      closed = closed_gives_zero;
      only = zero_only_if_closed;
      linear = is_linear;
      bursts = shows_a_changed_burst;
      bytes = shows_a_changed_byte;
    }
