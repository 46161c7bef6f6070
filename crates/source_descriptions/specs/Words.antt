-- What is said about a capability, as text (own).
use Rattle.std.specs.Prelude.{ℕ, List, [], ◌∷◌, ◌++◌, codes}
use Rattle.ti_caps.specs.Tables.{Capability}
use Rattle.ti_caps.specs.declared.capability.Kind.{Kind}
use Rattle.ti_caps.specs.declared.capability.Kind.TheVariants.{Flag, Number, Text}
use Rattle.source_descriptions.specs.Descriptions.{Described, described}

-- what the manual calls the kind
abbrev pub kind_word : Kind → List ℕ
kind_word Flag = codes "boolean"
kind_word Number = codes "number"
kind_word Text = codes "string"

-- its kind and its variable
abbrev pub detail_of : Capability → List ℕ
detail_of c = kind_word c.kind ++ codes ", " ++ (described c).variable

abbrev pub parameters_text : List ℕ → List ℕ
parameters_text [] = []
parameters_text (first ∷ rest) = codes "\nParameters: " ++ (first ∷ rest) ++ codes "."

-- the sentence, and the parameters if there are any
abbrev pub documented : Described → List ℕ
documented said = said.sentence ++ codes "." ++ parameters_text said.parameters

-- what is said about a capability: its sentence and its parameters
abbrev pub documentation_of : Capability → List ℕ
documentation_of c = documented (described c)
