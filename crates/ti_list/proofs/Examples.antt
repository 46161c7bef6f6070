-- The definitions compute what infocmp(1) prints of small entries.
use Rattle.std.proofs.Common.{◌≡◌, ℕ, false, [], ◌∷◌, refl}
use Rattle.std.specs.Prelude.{codes}
use Rattle.ti_caps.specs.Names.{flag_names, number_names, text_names}
use Rattle.ti_caps.specs.Tables.{capability, names}
use Rattle.std.specs.Fmt.{digits}
use Rattle.ti_caps.specs.declared.capability.Kind.TheVariants.{Flag, Number, Text}
use Rattle.ti_spelling.specs.Spelling.{byte_text}
use Rattle.ti_layout.specs.Values.{content_true, content_number, content_text, Contents, contents}
use Rattle.ti_list.specs.declared.layout.Layout.{Layout}
use Rattle.ti_list.specs.declared.layout.Order.{Order}
use Rattle.ti_list.specs.declared.layout.Order.TheVariants as order
use Rattle.ti_list.specs.declared.layout.Mode.TheVariants.{Differ, Common}
use Rattle.ti_list.specs.Listing.{in_order, listing}
use Rattle.ti_layout.specs.View.{Entry}
use Rattle.ti_list.specs.RelativeSource.{relative}
use Rattle.ti_list.specs.Comparison.{comparison}

abbrev layout : ℕ → Order → Layout
layout width by = record { width = width; one_per_line = false; order = by }

abbrev dumb : Contents
dumb = contents ((capability Flag 1, content_true) ∷ (capability Number 0, content_number 80) ∷ (capability Text 1, content_text (7 ∷ []))
    ∷ (capability Text 2, content_text (13 ∷ []))
    ∷ (capability Text 11, content_text (10 ∷ [])) ∷ (capability Text 129, content_text (10 ∷ [])) ∷ [])

abbrev first : Entry
first = record {
  names = codes "a|first";
  contents =
      contents ((capability Flag 1, content_true) ∷ (capability Number 0, content_number 80) ∷ (capability Text 1, content_text (7 ∷ [])) ∷ []);
}

abbrev second : Entry
second = record {
  names = codes "b|second";
  contents =
      contents ((capability Number 0, content_number 132) ∷ (capability Text 1, content_text (7 ∷ [])) ∷ (capability Text 2, content_text (13 ∷ [])) ∷ []);
}

lists_dumb : listing (codes "dumb|80-column dumb tty") dumb (layout 60 order.Table) ≡ codes
    "dumb|80-column dumb tty,\n\tam,\n\tcols#80,\n\tbel=^G, cr=\\r, cud1=\\n, ind=\\n,\n"
unfolding names flag_names number_names text_names byte_text digits in_order contents
lists_dumb = refl

lists_dumb_narrow : listing (codes "dumb|80-column dumb tty") dumb (layout 24 order.Table) ≡ codes
    "dumb|80-column dumb tty,\n\tam,\n\tcols#80,\n\tbel=^G, cr=\\r,\n\tcud1=\\n, ind=\\n,\n"
unfolding names flag_names number_names text_names byte_text digits in_order contents
lists_dumb_narrow = refl

relates : relative first (second ∷ []) (layout 60 order.Table) ≡ codes "a|first,\n\tam,\n\tcols#80,\n\tcr@,\n\tuse=b,\n"
unfolding names flag_names number_names text_names byte_text digits in_order contents
relates = refl

compares : comparison first second Differ order.Table ≡ codes
    "comparing a to b.\n    comparing booleans.\n\tam: T:F.\n    comparing numbers.\n\tcols: 80, 132.\n    comparing strings.\n\tcr: NULL, '\\r'.\n"
unfolding names flag_names number_names text_names byte_text digits in_order contents
compares = refl

compares_common : comparison first second Common order.Table ≡ codes
    "comparing a to b.\n    comparing booleans.\n    comparing numbers.\n    comparing strings.\n\tbel= '^G'.\n"
unfolding names flag_names number_names text_names byte_text digits in_order contents
compares_common = refl
