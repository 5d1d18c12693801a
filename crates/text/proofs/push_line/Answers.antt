-- A turn appends one field; after the last turn all are there.
use Rattle.std.proofs.Common.{rules, ◌≡◌, ◌++◌, length, ℕ, ap, ◌∙◌, arith, length-append}
use Rattle.std.proofs.Common.{get_or}
use Rattle.text.specs.Line.{field_of, line_of}
use Rattle.text.specs.declared.Field.TheVariants.{Decimal}
use Rattle.text.proofs.Lines.{before, one_more_pushed, one_more_short, field_short}
use Rattle.text.proofs.push_line.Goals as goal

pub push_str-requires : goal.push_str-requires
push_str-requires g c =
    let fields = c.args.fields.now in
    let field = get_or fields c.loop-k.k (Decimal 0) in (
      search rules,
      omega (
        arith,
        ap length c.push_field.ensures,
        length-append c.loop-k.text.bytes (field_of field),
        ap length c.loop-k.invariant.0,
        length-append c.args.text.now.bytes (before fields c.loop-k.k),
        field_short field,
        ap length c.end_of.ensures,
      ),
    )

pub loop-k-preserved : goal.loop-k-preserved
loop-k-preserved g c = (
  one_more_pushed c.args.fields.now c.loop-k.k _ _ _ _ _ c.loop-k.invariant.0 c.push_field.ensures c.end_of.ensures c.push_str.ensures.bytes,
  one_more_short c.args.fields.now c.loop-k.k c.loop-k.invariant.1,
)

pub returns : goal.returns
unfolding line_of
returns g c =
    let all : c.loop-k.k ≡ length c.args.fields.now = omega arith in
    c.loop-k.invariant.0 ∙ ap (λ (k : ℕ). c.args.text.now.bytes ++ before c.args.fields.now k) all
