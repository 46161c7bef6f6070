use Rattle.source_names.proofs.UserRenamed.{user_values, users_say}
use Rattle.source_names.proofs.renaming.renames_keep_user_values.Goals as goal

pub returns-clause-sayings : goal.returns-clause-sayings
returns-clause-sayings c = users_say

pub returns-clause-values : goal.returns-clause-values
returns-clause-values c = user_values
