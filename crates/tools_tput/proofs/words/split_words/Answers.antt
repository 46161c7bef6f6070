use Rattle.std.proofs.Common.{◌≡◌, length, rules}
use Rattle.tools_tput.proofs.Parting.{take_front}
use Rattle.tools_tput.proofs.words.split_words.Goals as goal

pub returns-then-is_full : goal.returns-then-is_full
returns-then-is_full c = let full : length c.loop-word.words.items ≡ 11 = search rules in
    take_front _ _ c.loop-word.words.items _ 11 c.loop-word.invariant.split full
