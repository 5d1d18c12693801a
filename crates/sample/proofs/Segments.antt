-- A stretch of a slice that is written from its start `a` up to place i, while `rest` is still to come. Assumes nothing.
--     segment-start   nothing is written
--     segment-put     the next element is stored
--     segment-keep    a store elsewhere
--     segment-end     all is written
use Rattle.std.proofs.Common.{◌≡◌, ℕ, suc, ◌+◌, ◌-◌, ◌<◌, ◌≤◌, ◌⊎◌, List, [], ◌∷◌, ◌++◌, length, take, drop, set, sym, refl, ap, ◌∙◌, inl, inr, append-nil, arith, length-drop, take-suc-set, drop-set-lt}
use lib.Seq.{take-set-le, drop-set-add, append_snoc}

pub record Segment {A : Type 0} (out : List A) (a i : ℕ) (goal rest : List A) : Type 0 where
  pub low : a ≤ i
  pub done : take (i - a) (drop a out) ++ rest ≡ goal
  pub ends : i + length rest ≡ a + length goal

module _ {A : Type 0} where
  pub segment_start : (out : List A) (a : ℕ) (goal : List A) → Segment out a a goal goal
  segment_start out a goal = record { low = omega arith; done = ap (λ (n : ℕ). take n (drop a out) ++ goal) (none a); ends = refl }
    where
      none : (a : ℕ) → a - a ≡ 0
      none a = omega arith

  pub segment_put : {out goal rest : List A} {a i : ℕ} {v : A} → i < length out → Segment out a i goal (v ∷ rest) → Segment (set out i v) a (i + 1) goal rest
  segment_put {out} {goal} {rest} {a} {i} {v} h s =
      record {
        low = omega (arith, s.low);
        done =
            ap (λ (n : ℕ). take n (drop a (set out i v)) ++ rest) (more a i s.low)
            ∙ ap (λ (n : ℕ). take (suc (i - a)) (drop a (set out n v)) ++ rest) (at a i s.low)
            ∙ ap (λ (l : List A). take (suc (i - a)) l ++ rest) (drop-set-add a out (i - a) v)
            ∙ ap (λ (l : List A). l ++ rest) (take-suc-set (drop a out) (i - a) v (omega (arith, s.low, length-drop a out)))
            ∙ append_snoc (take (i - a) (drop a out)) v rest
            ∙ s.done;
        ends = omega (arith, s.ends);
      }
    where
      more : (a i : ℕ) → a ≤ i → i + 1 - a ≡ suc (i - a)
      more a i h = omega arith

      at : (a i : ℕ) → a ≤ i → i ≡ a + (i - a)
      at a i h = omega arith

  pub segment_keep : {out goal rest : List A} {a i : ℕ} (j : ℕ) (v : A) → (j < a) ⊎ (i ≤ j) → Segment out a i goal rest → Segment (set out j v) a i goal rest
  segment_keep {out} {goal} {rest} {a} {i} j v w s = record { low = s.low; done = ap (λ (l : List A). l ++ rest) (same w) ∙ s.done; ends = s.ends }
    where
      at : (a j : ℕ) → a ≤ j → j ≡ a + (j - a)
      at a j h = omega arith

      same : (j < a) ⊎ (i ≤ j) → take (i - a) (drop a (set out j v)) ≡ take (i - a) (drop a out)
      same (inl h) = ap (λ (l : List A). take (i - a) l) (drop-set-lt a out j v h)
      same (inr h) =
          ap (λ (n : ℕ). take (i - a) (drop a (set out n v))) (at a j (omega (arith, s.low)))
          ∙ ap (λ (l : List A). take (i - a) l) (drop-set-add a out (j - a) v)
          ∙ take-set-le (i - a) (drop a out) (j - a) v (omega (arith, s.low))

  pub segment_end : {out goal : List A} {a i : ℕ} → Segment out a i goal [] → take (length goal) (drop a out) ≡ goal
  segment_end {out} {goal} {a} {i} s =
      ap (λ (n : ℕ). take n (drop a out)) (whole (length goal) s.ends) ∙ sym (append-nil (take (i - a) (drop a out))) ∙ s.done
    where
      whole : (n : ℕ) → i + length {A = A} [] ≡ a + n → n ≡ i - a
      whole n h = omega arith
