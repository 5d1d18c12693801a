-- A turn lays one field and what stands after it; after the last turn all are there.
use Rattle.std.proofs.Common.{◌≡◌, ◌+◌, ◌*◌, ◌≤◌, ◌<◌, ◌++◌, ◌∷◌, [], List, ℕ, length, get_or, refl, ap, sym, subst, ◌∙◌, arith, length-append, append_assoc}
use Rattle.text.specs.Line.{field_of, end_of, line_of}
use Rattle.text.specs.Placed.{LaidTo}
use Rattle.text.specs.declared.Field.{Field}
use Rattle.text.specs.declared.Field.TheVariants.{Decimal}
use Rattle.text.proofs.Lays.{after, left}
use Rattle.text.proofs.Lines.{before, field_short, one_more, one_more_short}
use Rattle.text.proofs.put_line.Goals as goal

module _ (fields : List Field) (k at : ℕ) (out out₁ out₂ : List ℕ) (to r : ℕ) (h : k < length fields) (room : at + 21 * length fields ≤ length out)
    (short : length (before fields k) ≤ 21 * k) (p : LaidTo out at (before fields k) to out₁) (field : Field) (q : LaidTo out₁ to (field_of field) r out₂) where
  abbrev some : List ℕ
  some = before fields k ++ field_of field

  both : LaidTo out at some r out₂
  both = after out out₁ out₂ at to r (before fields k) (field_of field) (omega (arith, field_short field)) p q

  some_short : length some ≤ 21 * k + 20
  some_short = omega (arith, length-append (before fields k) (field_of field), field_short field)

  one_left : r + 1 ≤ length out₂
  one_left = left out out₂ at r 1 some (omega (arith, some_short)) both

  next : (end out₃ : List ℕ) (r' : ℕ) → field ≡ get_or fields k (Decimal 0) → end ≡ end_of (length fields) k ∷ [] → LaidTo out₂ r end r' out₃
      → LaidTo out at (before fields (k + 1)) r' out₃
  next end out₃ r' d e s =
      subst (λ (l : List ℕ). LaidTo out at l r' out₃) one_more_is
      (after out out₂ out₃ at r r' some end (omega (arith, some_short, ap length e)) both s)
    where
      one_more_is : some ++ end ≡ before fields (k + 1)
      one_more_is =
          ap (λ (f : Field). (before fields k ++ field_of f) ++ end) d ∙ ap (λ (l : List ℕ). (before fields k ++ field_of (get_or fields k (Decimal 0))) ++ l) e
          ∙ append_assoc (before fields k) (field_of (get_or fields k (Decimal 0))) (end_of (length fields) k ∷ []) ∙ sym (one_more fields k)

pub put-to-requires : goal.put-to-requires
put-to-requires c =
    let one = one_left c.args.fields.now c.loop-k.k c.args.at c.args.out.now c.loop-k.out c.put_field-to.new.out c.loop-k.to c.put_field-to.result
    c.loop-k-test.true c.requires c.loop-k.invariant.1 c.loop-k.invariant.0 _ c.put_field-to.ensures in
    omega (arith, one, ap length c.as_bytes.ensures.value, ap length c.end_of.ensures)

pub loop-k-preserved : goal.loop-k-preserved
loop-k-preserved c = (
  next c.args.fields.now c.loop-k.k c.args.at c.args.out.now c.loop-k.out c.put_field-to.new.out c.loop-k.to c.put_field-to.result
      c.loop-k-test.true c.requires c.loop-k.invariant.1 c.loop-k.invariant.0 _ c.put_field-to.ensures
      c.as_bytes.result.now c.put-to.new.out c.put-to.result refl (c.as_bytes.ensures.value ∙ c.end_of.ensures) c.put-to.ensures,
  one_more_short c.args.fields.now c.loop-k.k c.loop-k.invariant.1,
)

pub returns : goal.returns
unfolding line_of
returns c =
    let all : c.loop-k.k ≡ length c.args.fields.now = omega arith in
    subst (λ (k : ℕ). LaidTo c.args.out.now c.args.at (before c.args.fields.now k) c.loop-k.to c.loop-k.out) all c.loop-k.invariant.0
