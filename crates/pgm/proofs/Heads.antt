-- The header at a file's front as the code has it, by its numbers and a place, and as the grammar splits the file: the same.
use mathlib.Core.Path.{◌≡◌, refl, sym, ap, ◌∙◌, subst}
use mathlib.Core.Logic.{◌↔◌}
use mathlib.Core.List.{List, ◌++◌, append_assoc}
use Prim.Native.Nat.{ℕ, ◌+◌, ◌*◌, ◌-◌, ◌≤◌}
use native.Mathlib.Omega.{arith}
use native.Mathlib.Nat.{mul-le-mul}
use lib.ListN.{length, take, drop, length-append, take-append-drop}
use lib.Seq.{take-append-add}
use Rattle.std.specs.Prelude.{Option, Some, None}
use Rattle.pgm.specs.declared.Head.{Head}
use Rattle.pgm.specs.Grammar.{Headed}
use Rattle.pgm.specs.Read.{Opening, split, none, header_at, header_of, head_by, head_of, header_bytes}
use Rattle.pgm.proofs.Splitting.{header_stands, header_read, prefix}
use Rattle.pgm.proofs.Decimal.{value_least, value_most}

pub missing_none : {A : Type 0} {w h m s : ℕ} → None ≡ header_at w h m s → A
missing_none e = absurd (cc)

-- equal headers have equal numbers and places
head_in : Option Head → Head
head_in (Some H) = H
head_in None = record { width = 0; height = 0; maximum = 0; start = 0 }

pub same_numbers : {w h m s w' h' m' s' : ℕ} → header_at w h m s ≡ header_at w' h' m' s' → (w ≡ w') × (h ≡ h') × (m ≡ m') × (s ≡ s')
unfolding head_in
same_numbers e = (ap (λ (o : Option Head). (head_in o).width) e, ap (λ (o : Option Head). (head_in o).height) e, ap (λ (o : Option Head). (head_in o).maximum) e, ap (λ (o : Option Head). (head_in o).start) e)

-- the split behind a header
pub record Behind (file : List ℕ) (w h m s : ℕ) : Type 0 where
  pub raster : List ℕ
  pub headed : Headed file w h m raster
  pub place : s + length raster ≡ length file

-- a split is found, by its numbers and where the raster begins
pub head_read : {file : List ℕ} {w h m : ℕ} {raster : List ℕ} → Headed file w h m raster → head_of file ≡ header_at w h m (length file - length raster)
unfolding head_of
head_read {file} s = ap (head_by file) (header_read s)

pub head_stands : (file : List ℕ) (w h m s : ℕ) → head_of file ≡ header_at w h m s → Behind file w h m s
unfolding head_of
head_stands file w h m s e = by (header_of file) refl e
  where
    by : (o : Opening) → header_of file ≡ o → head_by file o ≡ header_at w h m s → Behind file w h m s
    by none f e = missing_none e
    by (split w' h' m' raster) f e =
        let same = same_numbers e in
        let t = header_stands w h m raster file (f ∙ ap (λ (x : ℕ). split x h' m' raster) same.0 ∙ ap (λ (x : ℕ). split w x m' raster) same.1 ∙ ap (λ (x : ℕ). split w h x raster) same.2) in
        record { raster = raster; headed = t; place = omega (arith, same.3, ap length (prefix t).2, length-append (prefix t).0 raster) }

pub head_missing : (file : List ℕ) → (head_of file ≡ None) ↔ ((w h m : ℕ) (raster : List ℕ) → Headed file w h m raster → ⊥)
head_missing file = (λ e w h m raster s. missing_none (sym e ∙ head_read s), λ f. by (head_of file) refl f)
  where
    by : (H : Option Head) → head_of file ≡ H → ((w h m : ℕ) (raster : List ℕ) → Headed file w h m raster → ⊥) → head_of file ≡ None
    by None e f = e
    by (Some H) e f = let b = head_stands file H.width H.height H.maximum H.start e in absurd (f H.width H.height H.maximum b.raster b.headed)

-- sides and maximum from 1 to 99,999; the header is at most so long, and in the file
pub record Sized (file : List ℕ) (w h m s : ℕ) : Type 0 where
  pub width : (1 ≤ w) × (w ≤ 99999)
  pub height : (1 ≤ h) × (h ≤ 99999)
  pub maximum : (1 ≤ m) × (m ≤ 99999)
  pub place : (s ≤ header_bytes) × (s ≤ length file)

pub head_sized : (file : List ℕ) (w h m s : ℕ) → head_of file ≡ header_at w h m s → Sized file w h m s
head_sized file w h m s e =
    let b = head_stands file w h m s e in
    let n = b.headed.numerals in
    let v = b.headed.values in
    let p = prefix b.headed in
    record {
      width = (omega (arith, value_least b.headed.width n.0, v.0), omega (arith, value_most b.headed.width n.0, v.0));
      height = (omega (arith, value_least b.headed.height n.1, v.1), omega (arith, value_most b.headed.height n.1, v.1));
      maximum = (omega (arith, value_least b.headed.maximum n.2, v.2), omega (arith, value_most b.headed.maximum n.2, v.2));
      place = (omega (arith, b.place, p.1, ap length p.2, length-append p.0 b.raster), omega (arith, b.place));
    }

-- so nothing wraps
pub area_most : {file : List ℕ} {w h m s : ℕ} → Sized file w h m s → w * h ≤ 9999800001
area_most {w = w} {h = h} z = mul-le-mul {n₁ = w} {m₁ = h} {n₂ = 99999} {m₂ = 99999} z.width.1 z.height.1

-- as many first bytes as the longest header has show the header
module _ (file : List ℕ) (n : ℕ) (enough : header_bytes ≤ n) where
  abbrev front : List ℕ
  front = take n file

  stands_in_front : (w h m s : ℕ) → head_of file ≡ header_at w h m s → head_of front ≡ head_of file
  stands_in_front w h m s e = by (head_stands file w h m s e)
    where
      by : Behind file w h m s → head_of front ≡ head_of file
      by b = through (prefix b.headed)
        where
          through : (p : List ℕ) × (length p ≤ 21) × (file ≡ p ++ b.raster) × ((r : List ℕ) → Headed (p ++ r) w h m r) → head_of front ≡ head_of file
          through (p, few, is, on) =
              ap head_of cut_is ∙ head_read (on cut) ∙ ap (header_at w h m) (omega (arith, length-append p cut, ap length is, length-append p b.raster, b.place)) ∙ sym e
            where
              cut : List ℕ
              cut = take (n - length p) b.raster

              cut_is : front ≡ p ++ cut
              cut_is =
                  ap (λ (l : List ℕ). take n l) is
                  ∙ ap (λ (k : ℕ). take k (p ++ b.raster)) {x = n} {y = length p + (n - length p)} (omega (arith, few, enough))
                  ∙ take-append-add p b.raster (n - length p)

  missing_in_front : head_of file ≡ None → head_of front ≡ head_of file
  missing_in_front e = by (head_of front) refl
    where
      by : (H : Option Head) → head_of front ≡ H → head_of front ≡ head_of file
      by None f = f ∙ sym e
      by (Some H) f =
          let b = head_stands front H.width H.height H.maximum H.start f in
          let q = prefix b.headed in
          missing_none (sym e ∙ head_read (subst (λ (l : List ℕ). Headed l H.width H.height H.maximum (b.raster ++ drop n file))
          (sym (sym (take-append-drop n file) ∙ ap (λ (l : List ℕ). l ++ drop n file) q.2 ∙ append_assoc q.0 b.raster (drop n file))) (q.3 (b.raster ++ drop n file))))

  pub head_front : head_of front ≡ head_of file
  head_front = by (head_of file) refl
    where
      by : (H : Option Head) → head_of file ≡ H → head_of front ≡ head_of file
      by None e = missing_in_front e
      by (Some H) e = stands_in_front H.width H.height H.maximum H.start e

-- the same of a header as the code has it
pub few_pixels : (file : List ℕ) (H : Head) → Some H ≡ head_of file → (H.width * H.height ≤ 9999800001) × (H.start ≤ header_bytes) × (H.start ≤ length file)
few_pixels file H e = let z = head_sized file H.width H.height H.maximum H.start (sym e) in (area_most z, z.place.0, z.place.1)
