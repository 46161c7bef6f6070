use Rattle.std.proofs.Common.{◌≡◌, ◌<◌, ◌∷◌, List, ℕ, length, map, Bor, true, false, rules, sym, subst, arith}
use Rattle.std.proofs.lemmas.List.{length-map}
use Rattle.std.specs.Prelude.{nat_lt}
use Rattle.ti_layout.specs.View.{entry_seen}
use Rattle.everyday_tput.specs.Answers.{FullEntry, without_extension}
use Rattle.everyday_tput.specs.Commands.{NeedsExtension, Takes, clearing, no_name, unknown}
use Rattle.everyday_tput.proofs.Needed.{map_nil, more, one}
use Rattle.everyday_tput.proofs.asked.needs_extension.Goals as goal

pub returns-in_default : goal.returns-in_default
returns-in_default c =
    let zero : length c.args.words.now ≡ 0 = search rules in
    subst (λ ws. NeedsExtension (entry_seen c.args.view.now) c.args.keeps_scrollback ws false)
    (sym (map_nil (λ (word : Bor (List ℕ)). word.now) c.args.words.now zero)) no_name

pub returns-then-is_unknown_to_tables : goal.returns-then-is_unknown_to_tables
returns-then-is_unknown_to_tables c =
    let others = map (λ (word : Bor (List ℕ)). word.now) c.in-Some.others.now in
    let all : map (λ (word : Bor (List ℕ)). word.now) c.args.words.now ≡ c.in-Some.cap.now.now ∷ others = search rules in
    subst (λ ws. NeedsExtension (entry_seen c.args.view.now) c.args.keeps_scrollback ws true) (sym all) (unknown (search rules))

pub returns-then-not-keeps_scrollback : goal.returns-then-not-keeps_scrollback
returns-then-not-keeps_scrollback c =
    let others = map (λ (word : Bor (List ℕ)). word.now) c.in-Some.others.now in
    let all : map (λ (word : Bor (List ℕ)). word.now) c.args.words.now ≡ c.in-Some.cap.now.now ∷ others = search rules in
    subst (λ ws. NeedsExtension (entry_seen c.args.view.now) c.args.keeps_scrollback ws true) (sym all) (clearing (search rules))

pub returns-then-is_empty : goal.returns-then-is_empty
returns-then-is_empty c =
    let others = map (λ (word : Bor (List ℕ)). word.now) c.in-Some.others.now in
    let all : map (λ (word : Bor (List ℕ)). word.now) c.args.words.now ≡ c.in-Some.cap.now.now ∷ others = search rules in
    let none : length c.in-Some.others.now ≡ 0 = search rules in
    subst (λ ws. NeedsExtension (entry_seen c.args.view.now) c.args.keeps_scrollback ws false) (sym all)
    (one (entry_seen c.args.view.now) c.args.keeps_scrollback c.in-Some.cap.now.now (search rules) (search rules) others
    (omega (arith, length-map c.in-Some.others.now (λ (word : Bor (List ℕ)). word.now))))

pub returns : goal.returns
returns c =
    let others = map (λ (word : Bor (List ℕ)). word.now) c.in-Some.others.now in
    let cap = c.in-Some.cap.now.now in
    let entry = entry_seen c.args.view.now in
    let all : map (λ (word : Bor (List ℕ)). word.now) c.args.words.now ≡ cap ∷ others = search rules in
    let few : 0 < length c.in-Some.others.now = search rules in
    let some : 0 < length others = omega (arith, length-map c.in-Some.others.now (λ (word : Bor (List ℕ)). word.now)) in
    let takes : Takes (without_extension entry) cap c.words_taken.result =
    subst (λ (e : FullEntry). Takes e cap c.words_taken.result) c.of_tables.ensures c.words_taken.ensures in
    subst (λ ws. NeedsExtension entry c.args.keeps_scrollback ws (nat_lt c.words_taken.result (length c.in-Some.others.now))) (sym all)
    (subst (λ (k : ℕ). NeedsExtension entry c.args.keeps_scrollback (cap ∷ others) (nat_lt c.words_taken.result k))
    (length-map c.in-Some.others.now (λ (word : Bor (List ℕ)). word.now))
    (more entry c.args.keeps_scrollback cap (search rules) (search rules) others c.words_taken.result some takes))
