use Rattle.std.proofs.Common.{ℕ, List, ◌||◌, ap, ◌∙◌}
use Rattle.std.specs.Str.{bytes_eq}
use Rattle.std.specs.List.{list_any}
use Rattle.std.specs.Ordering.{is_eq, nat_cmp}
use Rattle.std.specs.Cmp.Lexicographic.{slice_cmp}
use denote.Ref.{Bor}
use Rattle.ti_base.specs.inside.Names.{is_seen}
use Rattle.ti_base.proofs.Naming.{key_put}
use Rattle.ti_base.proofs.names.add_unseen.Goals as goal

pub returns-in_ok-push-clause-seen : goal.returns-in_ok-push-clause-seen
returns-in_ok-push-clause-seen c = λ other.
    ap (list_any (λ (key : Bor (List ℕ)). is_eq (slice_cmp nat_cmp other key.now))) c.in_ok-insert.ensures.keys
    ∙ (key_put (λ (key : Bor (List ℕ)). key.now) other c.args.seen.now.keys c.as_slice.result
    ∙ ap (λ n. bytes_eq other n || is_seen c.args.seen.now other) c.as_slice.ensures.value)
