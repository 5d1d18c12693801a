-- Each way out has its reason, by the tests before it, and the last one the pixel's cell. Assumes nothing.
use mathlib.Core.Path.{◌≡◌, sym, ap, ◌∙◌}
use mathlib.Core.Bool.{Bool, ◌&&◌}
use Prim.Native.Nat.{ℕ, ◌+◌, ◌*◌}
use native.Mathlib.Omega.{arith}
use lib.IntN.{pos}
use lib.ListN.{get_or}
use Rattle.std.proofs.Common.{rules}
use Rattle.laws.proofs.Refusing.{and}
use Rattle.support.specs.Support.{in_side}
use Rattle.support.proofs.Laws.{outside, inside}
use Rattle.support.proofs.Places.{place_held}
use Rattle.support.proofs.Refusals.{small}
use Rattle.gradients.proofs.Refusals.{place_state, place_11, place_0}
use Rattle.gradients.proofs.PixelGradients.place.Goals as goal

pub returns-in_err-judge-clause-place : goal.returns-in_err-judge-clause-place
returns-in_err-judge-clause-place c = let a = c.args in let e = place_state a.self.now a.x a.y a.v _ c.in_err-judge.ensures in search (rules, e)

pub returns-in_err-i-clause-place : goal.returns-in_err-i-clause-place
returns-in_err-i-clause-place c =
    let a = c.args in let s = a.self.now in let o = get_or s.origin 0 (pos 0) in let p = get_or s.origin 1 (pos 0) in
    let h = outside a.x o s.side (place_held a.x o s.side c.ranges.x (omega arith) (sym c.in_err-i.ensures.ok_part ∙ c.past_origin.ensures)) in
    let e = place_11 s a.x a.y a.v c.in_ok-judge.ensures (and (sym c.is_finite32.ensures) (sym c.is_finite32-2.ensures) ∙ c.if-not-is_finite32.false)
    (ap (λ (b : Bool). b && in_side a.y p s.side) h) in
    search (rules, e)

pub returns-in_err-j-clause-place : goal.returns-in_err-j-clause-place
returns-in_err-j-clause-place c =
    let a = c.args in let s = a.self.now in let o = get_or s.origin 0 (pos 0) in let p = get_or s.origin 1 (pos 0) in
    let i = inside a.x o s.side (place_held a.x o s.side c.ranges.x (omega arith) (sym c.in_ok-i.ensures.ok_part ∙ c.past_origin.ensures)) in
    let h = outside a.y p s.side (place_held a.y p s.side c.ranges.y (omega arith) (sym c.in_err-j.ensures.ok_part ∙ c.past_origin-2.ensures)) in
    let e = place_11 s a.x a.y a.v c.in_ok-judge.ensures (and (sym c.is_finite32.ensures) (sym c.is_finite32-2.ensures) ∙ c.if-not-is_finite32.false)
    (ap (λ (b : Bool). b && in_side a.y p s.side) i.0 ∙ h) in
    search (rules, e)

pub index-requires : goal.index-requires
index-requires c =
    let a = c.args in let s = a.self.now in let o = get_or s.origin 0 (pos 0) in let p = get_or s.origin 1 (pos 0) in
    let i = inside a.x o s.side (place_held a.x o s.side c.ranges.x (omega arith) (sym c.in_ok-i.ensures.ok_part ∙ c.past_origin.ensures)) in
    let j = inside a.y p s.side (place_held a.y p s.side c.ranges.y (omega arith) (sym c.in_ok-j.ensures.ok_part ∙ c.past_origin-2.ensures)) in
    (i.2, j.2, small _ _ c.in_ok-judge.ensures)

cells : (n : ℕ) {i j i' j' : ℕ} → i ≡ i' → j ≡ j' → j * n + i ≡ j' * n + i'
cells n e f = cc

pub returns-clause-place : goal.returns-clause-place
returns-clause-place c =
    let a = c.args in let s = a.self.now in let o = get_or s.origin 0 (pos 0) in let p = get_or s.origin 1 (pos 0) in
    let i = inside a.x o s.side (place_held a.x o s.side c.ranges.x (omega arith) (sym c.in_ok-i.ensures.ok_part ∙ c.past_origin.ensures)) in
    let j = inside a.y p s.side (place_held a.y p s.side c.ranges.y (omega arith) (sym c.in_ok-j.ensures.ok_part ∙ c.past_origin-2.ensures)) in
    place_0 s a.x a.y a.v c.in_ok-judge.ensures (and (sym c.is_finite32.ensures) (sym c.is_finite32-2.ensures) ∙ c.if-not-is_finite32.false)
    (ap (λ (b : Bool). b && in_side a.y p s.side) i.0 ∙ j.0) (c.index.ensures.0 ∙ cells s.side i.1 j.1)
