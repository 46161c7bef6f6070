use Rattle.std.proofs.Common.{◌≡◌, ◌<◌, ◌≤◌, ℕ, List, length, ap, ◌∙◌, subst, arith, IfOk}
use Rattle.ti_layout.specs.Image.{image, image_limit}
use Rattle.ti_layout.specs.Values.{contents}
use Rattle.ti_compiled.specs.Image.{NamedTable, bytes_of}
use Rattle.ti_compiled.specs.inside.Image.{names_in}
use Rattle.ti_compiled.proofs.Rooms.{image_again}
use Rattle.ti_compiled.proofs.ReadAgain.{IsWrittenAs, written_as}
use Rattle.ti_compiled.proofs.image.Image.patch.Goals as goal
use Rattle.ti_compiled.proofs.image.Image.patch.Goals.{After-is_within_limit, After-new}

written : (c : After-is_within_limit) → IsWrittenAs c.in-Some.image c.args.self.now.names (contents c.args.new.now)
written c =
    written_as c.in-Some.image c.args.self.now.names (contents c.args.new.now) c.is_within_limit.ensures c.in-Some.ensures.names c.in-Some.ensures.contents

pub returns-in-Some-clause-image : goal.returns-in-Some-clause-image
returns-in-Some-clause-image c = (written c).whole

pub returns-in-Some-clause-too_large : goal.returns-in-Some-clause-too_large
returns-in-Some-clause-too_large c = let w = (written c).within in (λ e. absurd cc, λ lt. absurd (omega arith))

pub returns-in-Some-clause-names : goal.returns-in-Some-clause-names
returns-in-Some-clause-names c = c.in-Some.ensures.names

pub returns-in-Some-clause-contents : goal.returns-in-Some-clause-contents
returns-in-Some-clause-contents c = c.in-Some.ensures.contents

pub names_of-requires : goal.names_of-requires
names_of-requires c = image_again _ _ c.deref.ensures.value c.self.invariant

-- the names with which the image is written anew
same_names : (c : After-new) → c.names_of.result.now ≡ c.args.self.now.names
same_names c = c.names_of.ensures.names ∙ ap names_in c.deref.ensures.value ∙ ap (λ (i : NamedTable). i.names) c.self.view_is

pub returns-in-None-clause-image : goal.returns-in-None-clause-image
returns-in-None-clause-image c =
    subst (λ (x : List ℕ). IfOk c.new.result (λ i. bytes_of i ≡ image x (contents c.args.new.now))) (same_names c) c.new.ensures.image

pub returns-in-None-clause-names : goal.returns-in-None-clause-names
returns-in-None-clause-names c = subst (λ (x : List ℕ). IfOk c.new.result (λ i. i.names ≡ x)) (same_names c) c.new.ensures.names

pub returns-in-None-clause-contents : goal.returns-in-None-clause-contents
returns-in-None-clause-contents c = c.new.ensures.contents

pub returns-in-None-clause-too_large : goal.returns-in-None-clause-too_large
returns-in-None-clause-too_large c =
    let over : c.names_of.result.now ≡ c.args.self.now.names = same_names c in
    let t = c.new.ensures.too_large in (
      λ e. subst (λ (x : List ℕ). image_limit (contents c.args.new.now) < length (image x (contents c.args.new.now))) over (t.0 e).1,
      λ lt. t.1 (c.names_of.ensures.short, rw over lt),
    )

pub returns-in-None-clause-memory : goal.returns-in-None-clause-memory
returns-in-None-clause-memory c =
    λ e. subst (λ (x : List ℕ). length (image x (contents c.args.new.now)) ≤ image_limit (contents c.args.new.now)) (same_names c) (c.new.ensures.memory e).1

pub returns-in-None-clause-names_fit : goal.returns-in-None-clause-names_fit
returns-in-None-clause-names_fit c = λ e. let over = c.new.ensures.names_too_long.0 e in let short = c.names_of.ensures.short in omega arith
