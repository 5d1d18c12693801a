-- Demand 1 at the edge call: five cases, one for each answer. Assumes nothing.
use mathlib.Core.Path.{◌≡◌, refl, subst}
use mathlib.Core.Bool.{Bool, true, false, cond, ◌||◌}
use mathlib.Core.Logic.{inl, inr}
use mathlib.Core.List.{List}
use Prim.Native.Nat.{ℕ}
use lib.ListN.{length}
use lib.IntN.{ℤ}
use lib.Ieee.{Float, lt}
use Rattle.ieee.specs.Numbers.{f32_of}
use Rattle.limits.specs.Limits.{too_large, other_length, far_place}
use Rattle.numbers.specs.declared.Number.TheVariants.{SideAbove, OtherLength, Far, Flat}
use Rattle.tile.specs.declared.EdgeWidth.{EdgeWidth}
use Rattle.tile.specs.declared.EdgeWidth.TheVariants.{Width, Refused}
use Rattle.tile.specs.Refusal.{refusal}
use Rattle.tile.specs.Width.{edge_width_of}
use Rattle.edge.specs.Edge.{edge}
use Rattle.edge.specs.Demand1.{Demand1, high, low, gradient, EdgeMeets}

-- the answers in their order
abbrev ordered : Bool → Bool → Bool → Bool → Float → EdgeWidth
ordered large other far steep width =
    cond large (Refused SideAbove) (cond other (Refused OtherLength) (cond far (Refused Far) (cond steep (Width width) (Refused Flat))))

meets : (large other far steep : Bool) (width : Float) → Demand1 large other far steep width (ordered large other far steep width)
meets true other far steep width = record {
  one = (λ e. refl, λ e. refl);
  two = (λ e. cc, λ p. cc p.0);
  eight = (λ e. cc, λ p. cc p.0);
  nine = (λ e. cc, λ p. cc p.0);
  figure = λ x. (λ e. cc, λ p. cc p.0);
  no_other = λ why e. inl (cc);
}
meets false true far steep width = record {
  one = (λ e. cc, λ p. cc);
  two = (λ e. (refl, refl), λ p. refl);
  eight = (λ e. cc, λ p. cc p.1);
  nine = (λ e. cc, λ p. cc p.1);
  figure = λ x. (λ e. cc, λ p. cc p.1);
  no_other = λ why e. inr (inl (cc));
}
meets false false true steep width = record {
  one = (λ e. cc, λ p. cc);
  two = (λ e. cc, λ p. cc p.1);
  eight = (λ e. (refl, refl, refl), λ p. refl);
  nine = (λ e. cc, λ p. cc p.2);
  figure = λ x. (λ e. cc, λ p. cc p.2);
  no_other = λ why e. inr (inr (inl (cc)));
}
meets false false false true width = record {
  one = (λ e. cc, λ p. cc);
  two = (λ e. cc, λ p. cc p.1);
  eight = (λ e. cc, λ p. cc p.2);
  nine = (λ e. cc, λ p. cc p.3);
  figure = λ x. (λ e. (refl, refl, refl, refl, cc), λ p. cc p.4);
  no_other = λ why e. cc;
}
meets false false false false width = record {
  one = (λ e. cc, λ p. cc);
  two = (λ e. cc, λ p. cc p.1);
  eight = (λ e. cc, λ p. cc p.2);
  nine = (λ e. (refl, refl, refl, refl), λ p. refl);
  figure = λ x. (λ e. cc, λ p. cc p.3);
  no_other = λ why e. inr (inr (inr (cc)));
}

module _ (l : List ℕ) (w h : ℕ) (origin centre : List ℤ) where
  abbrev in_order : EdgeWidth
  in_order =
      ordered (too_large w h) (other_length (length l) w h) (far_place centre || far_place origin)
      (lt (f32_of 0) (gradient l w h origin centre))
      (edge_width_of (high l w h origin centre) (low l w h origin centre) (gradient l w h origin centre))

  edge_ordered : in_order ≡ edge l w h origin centre
  unfolding edge refusal
  edge_ordered = go (too_large w h) (other_length (length l) w h) (far_place centre || far_place origin) refl refl refl
    where
      go : (a b c : Bool) → too_large w h ≡ a → other_length (length l) w h ≡ b → (far_place centre || far_place origin) ≡ c → in_order ≡ edge l w h origin centre
      go true b c p q r = rw p refl
      go false true c p q r = rw (p, q) refl
      go false false true p q r = rw (p, q, r) refl
      go false false false p q r = rw (p, q, r) refl

  pub edge_meets : EdgeMeets l w h origin centre
  edge_meets =
      subst (Demand1 (too_large w h) (other_length (length l) w h) (far_place centre || far_place origin) (lt (f32_of 0) (gradient l w h origin centre)) _) edge_ordered
      (meets (too_large w h) (other_length (length l) w h) (far_place centre || far_place origin) (lt (f32_of 0) (gradient l w h origin centre)) _)
