use Rattle.std.proofs.Common.{ap, ◌∙◌}
use Rattle.ti_layout.specs.Values.{Contents, contents}
use Rattle.ti_compiled.proofs.ReadAgain.{Again, read_again, some_bytes}
use Rattle.ti_compiled.proofs.Seen.{seen_bytes, seen_says}
use Rattle.ti_compiled.proofs.image.Image.new.Goals as goal
use Rattle.ti_compiled.proofs.image.Image.new.Goals.{In_ok-bytes}

again : (c : In_ok-bytes) → Again c.in_ok-bytes.bytes.items c.args.names.now (contents c.args.table.now)
again c =
    let ok = c.in_ok-bytes.ensures.ok in
    read_again c.in_ok-bytes.bytes.items c.args.names.now (contents c.args.table.now) (some_bytes c.args.names.now c.requires.present) ok.1
    c.requires.no_nul (λ k valid. c.values_agree.ensures k) ok.2 ok.0

pub invariant_of-result : goal.invariant_of-result
invariant_of-result c = (again c).is_image

pub returns-clause-names : goal.returns-clause-names
returns-clause-names c = (again c).names_read

pub returns-clause-contents : goal.returns-clause-contents
returns-clause-contents c = λ d valid. ap (λ (f : Contents). f d) (seen_says c.in_ok-bytes.bytes.items (again c).is_image) ∙ (again c).contents_read d valid

pub returns-clause-image : goal.returns-clause-image
returns-clause-image c = seen_bytes c.in_ok-bytes.bytes.items (again c).is_image ∙ c.in_ok-bytes.ensures.ok.0
