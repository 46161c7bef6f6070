use Rattle.everyday_sources.proofs.Determined.{used_entries_are_determined}
use Rattle.everyday_sources.proofs.laws.used_entries_are_determined.Goals as goal

pub returns : goal.returns
returns c =
    used_entries_are_determined c.finds_the_first.ensures c.files_have_one_reading.ensures c.headers_have_one_reading.ensures
