use Rattle.std.proofs.Common.{◌<◌, ℕ, List, length, subst, sym}
use Rattle.ti_tools.proofs.entry_files.add_block.Goals as goal

pub add_entry_files-requires : goal.add_entry_files-requires
add_entry_files-requires c = subst (λ (texts : List (List ℕ)). c.args.at < length texts) (sym c.as_ruled.ensures.texts) c.requires
