-- Demand 1 at the grey file's calls from C: which number each gives and exactly when, and that the lent fields change exactly after 0.
-- The header's is for every argument, the judgement's for the first bytes of a file, 21 of them or all.
use Rattle.std.specs.Prelude.{◌≡◌, ◌↔◌, ◌⊎◌, List, [], ◌∷◌, ◌++◌, ℕ, ◌*◌, ◌-◌, ◌≤◌, ◌<◌, length, drop, take}
use Rattle.pgm.specs.Grammar.{Headed}
use Rattle.pgm.specs.File.{ImageFile}
use Rattle.pgm.specs.Read.{front_read}
use Rattle.vuzgari.specs.Records.{Shown}
use Rattle.vuzgari.specs.Grey.{header_in, number_for}

-- no split of the bytes has a header in front
abbrev pub Headless : List ℕ → Type 0
Headless file = (w h m : ℕ) (raster : List ℕ) → Headed file w h m raster → ⊥

-- reading the header in front of a file's first bytes into lent fields
pub record HeaderAtC (front fields : List ℕ) (x : Shown) : Type 0 where
  -- no other number than 0, 4 and 20
  pub only : (x.number ≡ 0) ⊎ (x.number ≡ 4) ⊎ (x.number ≡ 20)
  pub four : (x.number ≡ 4) ↔ (length fields < 4)
  pub missing : (x.number ≡ 20) ↔ ((4 ≤ length fields) × Headless front)
  -- a refused call changes no field
  pub stays : (x.number ≡ 0 → ⊥) → x.fields ≡ fields
  -- else the three numbers and the raster's place stand in front of those that were beyond
  pub given : 4 ≤ length fields → (w h m : ℕ) (raster : List ℕ) → Headed front w h m raster
      → (x.number ≡ 0) × (x.fields ≡ (w ∷ h ∷ m ∷ (length front - length raster) ∷ []) ++ drop 4 fields)

-- judging a file
pub record JudgeAtC (file : List ℕ) (number : ℕ) : Type 0 where
  -- no other number than 0, 20, 21 and 22
  pub only : (number ≡ 0) ⊎ (number ≡ 20) ⊎ (number ≡ 21) ⊎ (number ≡ 22)
  pub header : (number ≡ 20) ↔ Headless file
  pub maximum : (number ≡ 21) ↔ ((w : ℕ) × (h : ℕ) × (m : ℕ) × (raster : List ℕ) × Headed file w h m raster × (m ≡ 255 → ⊥))
  pub raster : (number ≡ 22) ↔ ((w : ℕ) × (h : ℕ) × (raster : List ℕ) × Headed file w h 255 raster × (length raster ≡ w * h → ⊥))
  pub image : (number ≡ 0) ↔ ((w : ℕ) × (h : ℕ) × (start : ℕ) × ImageFile file w h start)

abbrev pub HeaderMeetsAtC : List ℕ → List ℕ → Type 0
HeaderMeetsAtC front fields = HeaderAtC front fields (header_in front fields)

-- by its first n bytes and its length
abbrev pub JudgeMeetsAtC : List ℕ → ℕ → Type 0
JudgeMeetsAtC file n = JudgeAtC file (number_for (front_read (take n file) (length file)))
