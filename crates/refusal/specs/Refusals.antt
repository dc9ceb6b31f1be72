-- Number, layer and places of every refusal, and the line that shows them. Assumes nothing.
use Rattle.std.specs.Prelude.{ℕ, List, ◌++◌, codes, decimal}
use Rattle.refusal.specs.declared.Layer.{Layer}
use Rattle.refusal.specs.declared.Layer.TheVariants.{File, Plan, Store, Rig, Report}
use Rattle.refusal.specs.declared.Part.{Part}
use Rattle.refusal.specs.declared.Part.TheVariants.{Identities, Tables, Events}
use Rattle.refusal.specs.declared.Refusal.{Refusal}
use Rattle.refusal.specs.declared.Refusal.TheVariants.{FileLength, FileVersion, FileRule, FileAgents, FileCells, CommonFactor, PartOutside, PartsOverlap, BadIdentity, BadEntry, BadEvent, NoSuchAgent, NotIdle, NotHolding, AtRest, HeardAll, NoSuchCell, NoMark, CellCount, BufferTooShort, CellTaken, NotBlank, OnStandoff, NoCommonFactor, StandoffAgents, StandoffCells, NoStandoff, RowLength, BadRenumbering}

abbrev pub layer_word : Layer → List ℕ
layer_word File = codes "file"
layer_word Plan = codes "plan"
layer_word Store = codes "store"
layer_word Rig = codes "rig"
layer_word Report = codes "report"

abbrev pub part_number : Part → ℕ
part_number Identities = 1
part_number Tables = 2
part_number Events = 3

-- what a refusal says of itself
pub record Description : Type 0 where
  pub number : ℕ
  pub layer : Layer
  pub first : ℕ
  pub second : ℕ

abbrev told : ℕ → Layer → ℕ → ℕ → Description
told c l a b = record { number = c; layer = l; first = a; second = b }

-- one line for each case: number, layer, and both places, zero where none is named
abbrev pub described : Refusal → Description
described FileLength = told 1 File 0 0
described FileVersion = told 2 File 0 0
described FileRule = told 3 File 0 0
described FileAgents = told 4 File 0 0
described FileCells = told 5 File 0 0
described (CommonFactor l) = told 6 File l 0
described (PartOutside p) = told 7 Plan (part_number p) 0
described (PartsOverlap p q) = told 8 Plan (part_number p) (part_number q)
described (BadIdentity k) = told 9 Plan k 0
described (BadEntry k x) = told 10 Plan k x
described (BadEvent i) = told 11 Plan i 0
described (NoSuchAgent k) = told 12 Rig k 0
described (NotIdle k) = told 13 Rig k 0
described (NotHolding k) = told 14 Rig k 0
described (AtRest k) = told 15 Rig k 0
described HeardAll = told 16 Rig 0 0
described (NoSuchCell y) = told 17 Store y 0
described NoMark = told 18 Store 0 0
described CellCount = told 19 Store 0 0
described BufferTooShort = told 20 Report 0 0
described (CellTaken y) = told 21 Store y 0
described NotBlank = told 22 Rig 0 0
described OnStandoff = told 23 Rig 0 0
described NoCommonFactor = told 24 Rig 0 0
described StandoffAgents = told 4 Rig 0 0
described StandoffCells = told 5 Rig 0 0
described NoStandoff = told 23 Rig 0 0
described RowLength = told 19 Store 0 0
described (BadRenumbering y) = told 10 Store 0 y

abbrev pub number_of : Refusal → ℕ
number_of e = (described e).number

abbrev pub layer_of : Refusal → Layer
layer_of e = (described e).layer

abbrev pub first_place : Refusal → ℕ
first_place e = (described e).first

abbrev pub second_place : Refusal → ℕ
second_place e = (described e).second

-- `refused C L place A B`
abbrev pub refusal_line : Refusal → List ℕ
refusal_line e = codes "refused " ++ (decimal (number_of e) ++ (codes " " ++ (layer_word (layer_of e) ++ (codes " place " ++ (decimal (first_place e) ++ (codes " " ++ decimal (second_place e)))))))
