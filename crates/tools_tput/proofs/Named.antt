-- What is answered to the names that are no capabilities.
use Rattle.std.proofs.Common.{◌≡◌, ℕ, true, false, List}
use Rattle.std.specs.Prelude.{bytes_eq, codes, ℤ}
use Rattle.ti_layout.specs.View.{Entry}
use Rattle.tools_tput.specs.Entries.{line_at_rate}
use Rattle.tools_tput.specs.Results.{init_strings}
use Rattle.tools_tput.specs.inside.Results.{named_reply, padded_texts, sent_reply}

pub named_reply-init : (entry : Entry) (rate : ℕ) (cap : List ℕ) (words : List (List ℕ)) (statics : List ℤ) → bytes_eq cap (codes "longname") ≡ false
    → bytes_eq cap (codes "init") ≡ true → named_reply entry rate cap words statics ≡ sent_reply
    (padded_texts (line_at_rate entry rate) (init_strings entry)) statics statics
named_reply-init entry rate cap words statics a b = rw (a, b)
