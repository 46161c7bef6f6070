use Rattle.std.proofs.Common.{◌≡◌, ◌++◌, ◌∷◌, [], List, ℕ, Option, ap, arith, length, option_map, ◌∙◌}
use Rattle.std.specs.Global.{Vec}
use Rattle.std.proofs.lemmas.List.{length-append, map-append}
use Rattle.everyday_tic.specs.inside.States.{others_seen, states_of}
use Rattle.everyday_tic.proofs.Spelled.{all-spelled, one-more}
use Rattle.everyday_tic.proofs.characters.spelled_entries.Goals as goal

pub loop-at-preserved : goal.loop-at-preserved
loop-at-preserved c =
    let states = states_of c.args.database.now.rule c.args.database.now.texts (option_map (λ c. c.now) c.args.compiled) in
    let seen : Option (Vec ℕ) → Option (List ℕ) = λ o. option_map (λ v. v.items) o in
    let old = c.loop-at.made.items in
    let entry = seen c.in_ok-entry.entry in
    let is : others_seen c.push.new.self.items ≡ others_seen old ++ entry ∷ [] =
    ap others_seen c.in_ok-push.ensures.items ∙ map-append seen old (c.in_ok-entry.entry ∷ []) in
    record {
      many = omega (arith, ap length is, length-append (others_seen old) (entry ∷ []), c.loop-at.invariant.many);
      each = one-more states (others_seen c.args.others.now) (others_seen old) (others_seen c.push.new.self.items) c.loop-at.at entry
          c.loop-at.invariant.many is c.loop-at.invariant.each c.in_ok-entry.ensures;
    }

pub returns : goal.returns
returns c =
    let states = states_of c.args.database.now.rule c.args.database.now.texts (option_map (λ c. c.now) c.args.compiled) in
    all-spelled states (others_seen c.args.others.now) (others_seen c.loop-at.made.items) (omega (arith, c.loop-at.invariant.many, c.requires))
    c.loop-at.invariant.each
