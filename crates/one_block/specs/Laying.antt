-- Pages laid in a block, one after another. Assumes nothing.
--
--   put xs at ys               xs with ys in place of what stood from `at` on
--   Laid                       a block, and where the free bytes of its Data Field begin and end
--   laid x                     the same of a block in the making; room s, how many bytes are free
--   entry_of_page k c n left   the entry of a page of the type k and c bytes, of a record of n, before so many free bytes
--   with_page s k bs c n       s with a page of c bytes more: the bytes bs, then what stood there; and with its entry
--   fits s bs                  a page of the whole record bs can be laid
--   with_records s rs          s with a page for each of the records rs, if they fit
--   filled s                   s with Filler over what is left, if a page can start there
--   laid_out rs                the block that has the records rs, if they fit
use Rattle.std.specs.Prelude.{ℕ, ◌+◌, ◌-◌, Bool, false, cond, ◌&&◌, List, [], ◌∷◌, ◌++◌, length, take, drop, replicate, Some, None, Option, nat_le, nat_lt}
use Rattle.pages.specs.declared.page_type.PageType.{PageType}
use Rattle.pages.specs.declared.page_type.PageType.TheVariants.{Data, Filler}
use Rattle.pages.specs.declared.entry.Entry.{Entry}
use Rattle.pages.specs.Entry.{entry_bytes}
use Rattle.one_block.specs.declared.laying.Laying.{Laying}

abbrev pub put : List ℕ → ℕ → List ℕ → List ℕ
put xs at ys = take at xs ++ (ys ++ drop (at + length ys) xs)

pub record Laid : Type 0 where
  pub block : List ℕ
  pub front : ℕ
  pub back : ℕ

abbrev pub laid : Laying → Laid
laid x = record { block = x.block; front = x.front; back = x.back }

abbrev pub room : Laid → ℕ
room s = s.back - s.front

-- the last entry of its map where no other page can start
abbrev pub entry_of_page : PageType → ℕ → ℕ → ℕ → Entry
entry_of_page k c n left = record {
  kind = k;
  next = false;
  prev = false;
  last = nat_le left 16;
  compressed = false;
  reserved = 0;
  count = c;
  total = n;
}

unfoldable pub with_page : Laid → PageType → List ℕ → ℕ → ℕ → Laid
with_page s k bs c n = record {
  block = put (put s.block s.front bs) (s.back - 8) (entry_bytes (entry_of_page k c n (s.back - 8 - (s.front + c))));
  front = s.front + c;
  back = s.back - 8;
}

abbrev pub fits : Laid → List ℕ → Bool
fits s bs = nat_lt 16 (room s) && (nat_le 1 (length bs) && nat_le (length bs + 8) (room s))

unfoldable pub with_records : Laid → List (List ℕ) → Option Laid
with_records s [] = Some s
with_records s (bs ∷ rs) = cond (fits s bs) (with_records (with_page s Data bs (length bs) (length bs)) rs) None

abbrev pub filled : Laid → Laid
filled s = cond (nat_lt 16 (room s)) (with_page s Filler [] (room s - 8) 0) s

abbrev pub block_of : Option Laid → Option (List ℕ)
block_of None = None
block_of (Some s) = Some (filled s).block

abbrev pub nothing_laid : Laid
nothing_laid = record { block = replicate 8256 0; front = 0; back = 8208 }

abbrev pub laid_out : List (List ℕ) → Option (List ℕ)
laid_out rs = block_of (with_records nothing_laid rs)
