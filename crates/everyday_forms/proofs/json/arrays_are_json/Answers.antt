use Rattle.everyday_forms.proofs.Arrays as proved
use Rattle.everyday_forms.proofs.json.arrays_are_json.Goals as goal

pub returns : goal.returns
returns c = proved.arrays_are_json
