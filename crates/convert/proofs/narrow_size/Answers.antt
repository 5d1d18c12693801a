-- What the field says of the size: infinity, a normal f32, a subnormal one, or nothing.
use Rattle.ieee.proofs.Narrowing.{narrow_over, narrow_mid, narrow_low, narrow_none}
use lib.Ieee.Nearest.{closest}
use lib.Pow.{pow_pos, pow_mono}
use native.Mathlib.Omega.{arith}
use Prim.Native.Nat.{ℕ, ◌+◌, ◌-◌, ◌*◌, ◌/◌, ◌^◌, ◌%◌}
use mathlib.Core.Path.{sym, ap, ◌∙◌}
use Rattle.convert.proofs.narrow_size.Goals as goal

pub nearest-requires-then-field-ge873 : goal.nearest-requires-then-field-ge873
nearest-requires-then-field-ge873 c =
    let d = 926 - c.args.a / 2 ^ 52 in
    omega (arith, c.pow2.ensures, pow_pos d, pow_mono {i = d} {j = 54} (omega arith))

pub returns-then-field-ge1151 : goal.returns-then-field-ge1151
returns-then-field-ge1151 c = sym (narrow_over c.args.a c.requires c.if-field-ge1151.true)

pub returns-then-field-ge897 : goal.returns-then-field-ge897
returns-then-field-ge897 c =
    ap (λ (q : ℕ). (c.args.a / 2 ^ 52 - 897) * 0x80_0000 + q) c.nearest.ensures ∙ sym (narrow_mid c.args.a c.requires c.if-field-ge897.true c.if-field-ge1151.false)

pub returns-then-field-ge873 : goal.returns-then-field-ge873
returns-then-field-ge873 c =
    c.nearest-then-field-ge873.ensures
    ∙ ap (λ (p : ℕ). closest (2 ^ 52 + c.args.a % 2 ^ 52) p) c.pow2.ensures
    ∙ sym (narrow_low c.args.a c.requires (omega arith) c.if-field-ge897.false)

pub returns-else-field-ge873 : goal.returns-else-field-ge873
returns-else-field-ge873 c = sym (narrow_none c.args.a c.requires c.if-field-ge873.false)
