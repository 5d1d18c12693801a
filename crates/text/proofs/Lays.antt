-- Texts that are laid one after the other.
use mathlib.Core.Path.{◌≡◌, refl, sym, ap, ◌∙◌, subst}
use mathlib.Core.List.{List, [], ◌++◌, append-nil}
use Prim.Native.Nat.{ℕ, ◌+◌, ◌≤◌}
use native.Mathlib.Omega.{arith}
use lib.ListN.{length, take, drop, length-append, length-take, length-drop, take-append-drop}
use Rattle.laws.proofs.Fill.{Writing, start, put_many, end}
use Rattle.laws.specs.Lists.{laid}
use Rattle.text.specs.Placed.{LaidTo, Fronted}

pub long : (out : List ℕ) (at : ℕ) (new : List ℕ) → at + length new ≤ length out → length (laid out at new) ≡ length out
long out at new h =
    rw (length-append (take at out ++ new) (drop (at + length new) out), length-append (take at out) new, length-take at out, length-drop (at + length new) out) (omega arith)

pub twice : (out l₁ l₂ : List ℕ) (at : ℕ) (a b : List ℕ) → at + length a + length b ≤ length out → l₁ ≡ laid out at a → l₂ ≡ laid l₁ (at + length a) b → l₂ ≡ laid out at (a ++ b)
twice out l₁ l₂ at a b h e₁ e₂ = end done ∙ ap (λ (i : ℕ). (take at out ++ (a ++ b)) ++ drop i out) (go at (length a) (length b) ∙ ap (λ (i : ℕ). at + i) (sym (length-append a b)))
  where
    go : (x y z : ℕ) → x + y + z ≡ x + (y + z)
    go x y z = omega arith

    one : Writing (take at out ++ (a ++ b)) out (at + length a) l₁ b
    one = put_many a refl (omega arith) e₁ (start out at (a ++ b))

    done : Writing (take at out ++ (a ++ b)) out (at + length a + length b) l₂ []
    done = put_many b refl (omega (arith, one.long)) e₂ (subst (λ (r : List ℕ). Writing (take at out ++ (a ++ b)) out (at + length a) l₁ r) (sym (append-nil b)) one)

-- the same of calls that lay them
pub after : (out l₁ l₂ : List ℕ) (at r₁ r₂ : ℕ) (a b : List ℕ) → at + length a + length b ≤ length out → LaidTo out at a r₁ l₁ → LaidTo l₁ r₁ b r₂ l₂ → LaidTo out at (a ++ b) r₂ l₂
after out l₁ l₂ at r₁ r₂ a b h (p₁, e₁) (p₂, e₂) =
    (omega (arith, length-append a b), twice out l₁ l₂ at a b h e₁ (e₂ ∙ ap (λ (i : ℕ). laid l₁ i b) p₁))

-- room for m bytes after a text
pub left : (out l : List ℕ) (at r m : ℕ) (a : List ℕ) → at + length a + m ≤ length out → LaidTo out at a r l → r + m ≤ length l
left out l at r m a h (p, e) = omega (arith, ap length e ∙ long out at a (omega arith))

-- nothing laid
pub none : (out : List ℕ) (at : ℕ) → at ≤ length out → out ≡ laid out at []
none out at h = sym (ap (λ (i : ℕ). (take at out ++ []) ++ drop i out) (add_zero at) ∙ ap (λ (l : List ℕ). l ++ drop at out) (append-nil (take at out)) ∙ take-append-drop at out)
  where
    add_zero : (a : ℕ) → a + 0 ≡ a
    add_zero a = omega arith

-- a text from the front on
pub front : (out l a : List ℕ) (r : ℕ) → LaidTo out 0 a r l → Fronted out a r l
front out l a r (p, e) = (omega arith, e ∙ ap (λ (i : ℕ). a ++ drop i out) (sym p))

-- two texts one after the other, from the front on
pub two : (out l₁ l₂ a b : List ℕ) (r₁ r₂ : ℕ) → length a + length b ≤ length out → LaidTo out 0 a r₁ l₁ → LaidTo l₁ r₁ b r₂ l₂ → Fronted out (a ++ b) r₂ l₂
two out l₁ l₂ a b r₁ r₂ h p₁ p₂ = front out l₂ (a ++ b) r₂ (after out l₁ l₂ 0 r₁ r₂ a b (omega arith) p₁ p₂)
