use Rattle.std.proofs.Common.{◌≡◌, ◌++◌, ◌∷◌, [], List, ℕ, Option, ap, arith, length, option_map, ◌∙◌}
use Rattle.std.specs.Option.{is_some}
use Rattle.std.specs.Global.{Vec}
use Rattle.std.proofs.lemmas.List.{length-append, map-append}
use Rattle.everyday_graphics.specs.Entries.{IsWrittenState}
use Rattle.everyday_tic.specs.inside.States.{others_seen, states_of}
use Rattle.everyday_tic.proofs.Drawn.{all_over, one_put}
use Rattle.everyday_tic.proofs.drawing.drawn_entries.Goals as goal

pub loop-at-preserved : goal.loop-at-preserved
loop-at-preserved c =
    let rule = c.args.database.now.rule in
    let texts = c.args.database.now.texts in
    let states = states_of rule texts (option_map (λ c. c.now) c.args.compiled) in
    let seen : Option (Vec ℕ) → Option (List ℕ) = λ o. option_map (λ v. v.items) o in
    let old = c.loop-at.others.items in
    let other = seen c.in_ok-other.other in
    let is : others_seen c.push.new.self.items ≡ others_seen old ++ other ∷ [] =
    ap others_seen c.in_ok-push.ensures.items ∙ map-append seen old (c.in_ok-other.other ∷ []) in
    record {
      many = omega (arith, ap length is, length-append (others_seen old) (other ∷ []), c.loop-at.invariant.many);
      each = one_put (IsWrittenState rule (is_some c.args.compiled) c.args.draws texts) texts states (others_seen old) (others_seen c.push.new.self.items)
          c.loop-at.at other c.loop-at.invariant.many is c.loop-at.invariant.each c.in_ok-other.ensures;
    }

pub returns : goal.returns
returns c =
    let rule = c.args.database.now.rule in
    let texts = c.args.database.now.texts in
    all_over (IsWrittenState rule (is_some c.args.compiled) c.args.draws texts) texts (states_of rule texts (option_map (λ c. c.now) c.args.compiled))
    (others_seen c.loop-at.others.items) c.requires.as_many (omega (arith, c.loop-at.invariant.many)) c.loop-at.invariant.each
