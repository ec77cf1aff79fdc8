-- The refusals: number, word and layer of each.
use Rattle.std.specs.Prelude.{List, ℕ, codes}
use Rattle.refusal.specs.declared.Refusal.{Refusal}
use Rattle.refusal.specs.declared.Refusal.TheVariants.{Misfit, Short, Torn, Stray, Overrun, Miscut, Upright, Turned, Enough, Twice, Early}
use Rattle.refusal.specs.declared.layer.Layer.{Layer}
use Rattle.refusal.specs.declared.layer.Layer.TheVariants.{Field, Frame, Party, Floor}

-- A row of the table of refusals.
pub record Row : Type 0 where
  pub number : ℕ
  pub word : List ℕ
  pub layer : Layer

abbrev pub row : Refusal → Row
row Misfit = record { number = 1; word = codes "misfit"; layer = Floor }
row Short = record { number = 2; word = codes "short"; layer = Floor }
row Torn = record { number = 3; word = codes "torn"; layer = Frame }
row Stray = record { number = 4; word = codes "stray"; layer = Party }
row Overrun = record { number = 5; word = codes "overrun"; layer = Field }
row Miscut = record { number = 6; word = codes "miscut"; layer = Floor }
row Upright = record { number = 7; word = codes "upright"; layer = Floor }
row Turned = record { number = 8; word = codes "turned"; layer = Floor }
row Enough = record { number = 9; word = codes "enough"; layer = Floor }
row Twice = record { number = 10; word = codes "twice"; layer = Floor }
row Early = record { number = 11; word = codes "early"; layer = Floor }

abbrev pub number : Refusal → ℕ
number r = (row r).number

abbrev pub word : Refusal → List ℕ
word r = (row r).word

abbrev pub layer : Refusal → Layer
layer r = (row r).layer

abbrev pub layer_word : Layer → List ℕ
layer_word Field = codes "field"
layer_word Frame = codes "frame"
layer_word Party = codes "party"
layer_word Floor = codes "floor"
