use Rattle.std.proofs.Common.{◌≡◌, Some, drop}
use Rattle.tools_tput.specs.inside.Replies.{given_texts}
use Rattle.ti_text.specs.Lists.{both_lists}
use Rattle.tools_tput.specs.inside.Results.{padded_texts}
use Rattle.tools_tput.proofs.replies.pad_each.Given as goal

-- the strings so far, and what is left of them
abbrev pub invariant-loop-text : goal.invariant-loop-text
invariant-loop-text l =
    both_lists (Some l.bytes.items) (padded_texts l.line (given_texts (drop l.text-index l.texts))) ≡ padded_texts l.line (given_texts l.texts)
