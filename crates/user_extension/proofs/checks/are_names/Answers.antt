use Rattle.std.proofs.Common.{◌≡◌, ◌≢◌, ℕ, ◌<◌, ◌*◌, true, false, rules, sym, ap, ◌∙◌, refl, arith}
use Rattle.std.specs.Prelude.{IsTrue}
use Rattle.std.specs.Ordering.{nat_cmp, is_lt}
use Rattle.std.specs.Cmp.Lexicographic.{slice_cmp}
use Rattle.ti_layout.specs.Reading.{text_from, word_at}
use Rattle.user_items.specs.Names.{is_user_defined_name}
use Rattle.user_extension.specs.Reading.{name_in}
use Rattle.user_extension.proofs.Walk.{adjoins, ended_here, goes_on_rising, last_here, no_fall, no_gap, one_more}
use Rattle.user_extension.proofs.checks.are_names.Goals as goal

pub returns-then-offset-ends : goal.returns-then-offset-ends
returns-then-offset-ends c =
    let place = c.word-offset.ensures.value in (
      λ e. absurd (let never : false ≡ true = e in cc),
      λ are.
          absurd (c.ends-ends.ensures.after _ (omega (arith, place, c.if-offset-ends.true)) (are.ended c.loop-place.place (omega arith))),
    )

pub returns-then-not-adjoins : goal.returns-then-not-adjoins
returns-then-not-adjoins c =
    let (some, apart) = c.if-not-adjoins.ensures.no refl in (
      λ e. absurd (let never : false ≡ true = e in cc),
      λ are.
          absurd (apart (no_gap c.args.second c.args.third c.args.names.now c.args.table.now are c.loop-place.place c.word-offset.result c.loop-place.next some
          (omega arith) c.word-offset.ensures.value c.loop-place.invariant.ended)),
    )

pub returns-then-not-follows : goal.returns-then-not-follows
returns-then-not-follows c =
    let names = c.args.names.now in
    let table = c.args.table.now in
    let place : ℕ = c.loop-place.place in
    let (some, not_second, not_third, falls) = c.if-not-follows.ensures.no refl in
    let is : c.text-name.result.now ≡ name_in names table place = c.text-name.ensures ∙ ap (λ (n : ℕ). text_from table n) c.word-offset.ensures.value in (
      λ e. absurd (let never : false ≡ true = e in cc),
      λ are.
          let rises = no_fall c.args.second c.args.third names table are place c.loop-place.previous.now c.text-name.result.now some (omega arith) not_second
          not_third is c.loop-place.invariant.last in
          let never : false ≡ true = sym falls ∙ rises in absurd cc,
    )

pub loop-place-preserved : goal.loop-place-preserved
loop-place-preserved c =
    let i = c.loop-place.invariant in
    let names = c.args.names.now in
    let table = c.args.table.now in
    let place : ℕ = c.loop-place.place in
    let at : c.word-offset.result ≡ word_at (2 * place) names = c.word-offset.ensures.value in
    let is : c.text-name.result.now ≡ name_in names table place = c.text-name.ensures ∙ ap (λ (n : ℕ). text_from table n) at in
    let inside : word_at (2 * place) names < c.ends-ends.result = omega (arith, at, c.if-offset-ends.false) in
    let here : is_user_defined_name c.text-name.result.now ≡ true = search rules in
    let defined : IsTrue (is_user_defined_name (name_in names table place)) = sym (ap (λ n. is_user_defined_name n) is) ∙ here in
    let same : 0 < place → c.word-offset.result ≡ c.loop-place.next = c.if-not-adjoins.ensures.yes refl in
    let rises : 0 < place → place ≢ c.args.second → place ≢ c.args.third
    → IsTrue (is_lt (slice_cmp nat_cmp c.loop-place.previous.now c.text-name.result.now)) = c.if-not-follows.ensures.yes refl in
    record {
      before = one_more c.args.second c.args.third names table (λ k. word_at (2 * k) names < c.ends-ends.result) place i.before inside;
      user_defined = one_more c.args.second c.args.third names table (λ k. IsTrue (is_user_defined_name (name_in names table k))) place i.user_defined defined;
      adjoin = adjoins c.args.second c.args.third names table place c.word-offset.result c.loop-place.next i.adjoin at i.ended same;
      rise = goes_on_rising c.args.second c.args.third names table place c.loop-place.previous.now c.text-name.result.now i.rise is i.last rises;
      ended = ended_here c.args.second c.args.third names table place c.word-offset.result c.text-name.result.now at is;
      last = last_here c.args.second c.args.third names table place c.text-name.result.now is;
      key = c.key_at-key.ensures.key;
    }
