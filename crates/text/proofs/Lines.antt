-- Lines grow field by field, and how long a field can be.
use mathlib.Core.Path.{◌≡◌, sym, ap, ◌∙◌, subst}
use mathlib.Core.List.{List, [], ◌∷◌, ◌++◌, append-nil, append_assoc}
use Prim.Native.Nat.{ℕ, zero, suc, ◌+◌, ◌*◌, ◌≤◌}
use native.Mathlib.Omega.{arith}
use native.Mathlib.Numerals.{add-one}
use lib.ListN.{length, get_or, length-append}
use Rattle.laws.specs.Lists.{joined}
use Rattle.text.specs.declared.Field.{Field}
use Rattle.text.specs.declared.Field.TheVariants.{Decimal, Hex}
use Rattle.text.specs.Line.{field_of, field_at, end_of, line_of}
use Rattle.text.proofs.Decimals.{decimal_short}

pub field_short : (field : Field) → length (field_of field) ≤ 20
unfolding field_of
field_short (Decimal n) = decimal_short n
field_short (Hex x) = omega arith

-- one row more
pub joined_last : (rows : ℕ → List ℕ) (k n : ℕ) → joined rows k (suc n) ≡ joined rows k n ++ rows (k + n)
joined_last rows k zero = append-nil (rows k) ∙ ap rows (plus_zero_lem k)
  where
    plus_zero_lem : (a : ℕ) → a ≡ a + 0
    plus_zero_lem a = omega arith
joined_last rows k (suc n) =
    ap (λ (l : List ℕ). rows k ++ l) (joined_last rows (suc k) n ∙ ap (λ (j : ℕ). joined rows (suc k) n ++ rows j) (over k n))
    ∙ sym (append_assoc (rows k) (joined rows (suc k) n) (rows (k + suc n)))
  where
    over : (a b : ℕ) → suc a + b ≡ a + suc b
    over a b = omega arith

-- the fields before place k
abbrev pub before : List Field → ℕ → List ℕ
before fields k = joined (field_at fields) 0 k

pub one_more : (fields : List Field) (k : ℕ) → before fields (k + 1) ≡ before fields k ++ field_at fields k
one_more fields k = ap (before fields) (add-one k) ∙ joined_last (field_at fields) 0 k ∙ ap (λ (j : ℕ). before fields k ++ field_at fields j) (zero_plus k)
  where
    zero_plus : (a : ℕ) → 0 + a ≡ a
    zero_plus a = omega arith

pub one_more_short : (fields : List Field) (k : ℕ) → length (before fields k) ≤ 21 * k → length (before fields (k + 1)) ≤ 21 * (k + 1)
one_more_short fields k h =
    omega (
      arith,
      ap length (one_more fields k),
      length-append (before fields k) (field_at fields k),
      length-append (field_of (get_or fields k (Decimal 0))) (end_of (length fields) k ∷ []),
      field_short (get_or fields k (Decimal 0)),
    )

-- a line's length, by how many fields it has
pub line_short : (fields : List Field) → length (line_of fields) ≤ 21 * length fields
unfolding line_of
line_short fields = some (length fields)
  where
    some : (k : ℕ) → length (before fields k) ≤ 21 * k
    some zero = omega arith
    some (suc k) = subst (λ (j : ℕ). length (before fields j) ≤ 21 * j) (add-one k) (one_more_short fields k (some k))

pub one_more_pushed : (fields : List Field) (k : ℕ) (start text text' text'' end : List ℕ) → text ≡ start ++ before fields k
    → text' ≡ text ++ field_of (get_or fields k (Decimal 0)) → end ≡ end_of (length fields) k ∷ [] → text'' ≡ text' ++ end
    → text'' ≡ start ++ before fields (k + 1)
one_more_pushed fields k start text text' text'' end e f g h =
    rw (h, g, f, e, one_more fields k)
    (append_assoc (start ++ before fields k) (field_of (get_or fields k (Decimal 0))) (end_of (length fields) k ∷ [])
    ∙ append_assoc start (before fields k) (field_at fields k))
