-- Worked rows of the definitions.
use Rattle.std.proofs.Common.{◌≡◌, refl, Some, None, [], ◌∷◌}
use Rattle.std.specs.Prelude.{codes, pos, neg_ℤ, replicate}
use Rattle.ti_caps.specs.declared.capability.Kind.TheVariants.{Flag, Number, Text}
use Rattle.ti_caps.specs.Names.{flag_names, number_names, text_names}
use Rattle.ti_caps.specs.Tables.{capability, capability_named, names}
use Rattle.ti_layout.specs.Values.{contents, content_true, content_number, content_text}
use Rattle.ti_param.specs.Meaning.{number, text}
use Rattle.ti_layout.specs.View.{Entry}
use Rattle.tools_tput.specs.Parameters.{word_number, parameters}
use Rattle.tools_tput.specs.Results.{bad_reply, reply}
use Rattle.tools_tput.specs.inside.Results.{tput_result}

pub row-number : word_number (codes "23") ≡ Some (pos 23)
unfolding word_number
row-number = refl

row-minus : word_number (codes "-0") ≡ Some (pos 0)
unfolding word_number
row-minus = refl

row-zeros : word_number (codes "007") ≡ Some (pos 7)
unfolding word_number
row-zeros = refl

row-least : word_number (codes "-2147483648") ≡ Some (neg_ℤ (pos 2147483648))
unfolding word_number
row-least = refl

row-over : word_number (codes "2147483648") ≡ None
unfolding word_number
row-over = refl

row-plus : word_number (codes "+5") ≡ None
unfolding word_number
row-plus = refl

row-sign : word_number (codes "-") ≡ None
unfolding word_number
row-sign = refl

row-pfkey : parameters (codes "pfkey") (codes "1" ∷ codes "23" ∷ []) ≡ number (pos 1) ∷ text (codes "23") ∷ replicate 7 (number (pos 0))
unfolding parameters word_number
row-pfkey = refl

-- an entry like that of the example: am, cols#80, bel=^G
dumb : Entry
unfolding contents
dumb = record {
  names = codes "dumb|80-column dumb tty";
  contents = contents ((capability Flag 1, content_true) ∷ (capability Number 0, content_number 80) ∷ (capability Text 1, content_text (7 ∷ [])) ∷ []);
}

row-longname : tput_result dumb (codes "longname" ∷ []) 0 (replicate 26 (pos 0)) ≡ Some (reply (codes "80-column dumb tty") 0 (replicate 26 (pos 0)))
unfolding tput_result dumb
row-longname = refl

row-zz : tput_result dumb (codes "zz" ∷ []) 0 (replicate 26 (pos 0)) ≡ Some (bad_reply (replicate 26 (pos 0)))
unfolding tput_result dumb capability_named names flag_names number_names text_names
row-zz = refl

row-am : tput_result dumb (codes "am" ∷ []) 0 (replicate 26 (pos 0)) ≡ Some (reply [] 0 (replicate 26 (pos 0)))
unfolding tput_result dumb capability_named names flag_names number_names text_names contents
row-am = refl
