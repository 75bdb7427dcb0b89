-- Which bytes of a work area are under check words. Assumes nothing.
use Rattle.std.proofs.Common.{◌≡◌, ℕ, ◌+◌, ◌*◌, ◌/◌, ◌%◌, ◌<◌, Bool, true, false, ◌&&◌, ltb, leb, ap, ap₂, ◌∙◌, arith, lt-ltb, le-leb}
use borrow.Author.Tests.{lt-leb}
use Rattle.columns.specs.Columns.{is_check}

at_block : (i b : ℕ) → b < 8256 → ((i * 8256 + b) / 8256 ≡ i) × ((i * 8256 + b) % 8256 ≡ b)
at_block i b h = (omega arith, omega arith)

pub check-byte : (r j b : ℕ) → j < r → b < 8228 → is_check r ((16 + j) * 8256 + b) ≡ true
check-byte r j b h k =
    let p : ((16 + j) * 8256 + b) / 8256 ≡ 16 + j = (at_block (16 + j) b (omega arith)).0 in
    let q : ((16 + j) * 8256 + b) % 8256 ≡ b = (at_block (16 + j) b (omega arith)).1 in
    ap₂ (λ (x y : ℕ). leb 16 x && (ltb x (16 + r) && ltb y 8228)) p q
    ∙ ap₂ ◌&&◌ (le-leb 16 (16 + j) (omega arith)) (ap₂ ◌&&◌ (lt-ltb (16 + j) (16 + r) (omega arith))
    (lt-ltb b 8228 k))

pub data-byte : (r i b : ℕ) → i < 16 → b < 8256 → is_check r (i * 8256 + b) ≡ false
data-byte r i b h k =
    ap (λ (x : ℕ). leb 16 x && (ltb x (16 + r) && ltb ((i * 8256 + b) % 8256) 8228)) (at_block i b k).0
    ∙ ap (λ (t : Bool). t && (ltb i (16 + r) && ltb ((i * 8256 + b) % 8256) 8228)) (lt-leb 16 i h)
