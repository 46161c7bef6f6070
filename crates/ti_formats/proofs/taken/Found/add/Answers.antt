use Rattle.std.proofs.Common.{◌≡◌, ◌+◌, ◌-◌, ap, ◌∙◌, arith}
use Rattle.std.specs.Prelude.{◌&&◌, ◌||◌, ◌==◌, suc, false, max, min, slice_index_or}
use Rattle.ti_text.specs.Limits.{parameters_max}
use Rattle.ti_formats.specs.Parameters.{number_named, popped_by, pushed_by, named_in, takes_string, is_plain, begins_with_taker, is_string_in, popped_in}
use Rattle.ti_formats.proofs.Taking.{max-step, string-step, plain-takes, plain-number, popped-step}
use Rattle.ti_formats.proofs.taken.Found.add.Goals as goal

pub returns-clause-named : goal.returns-clause-named
unfolding named_in
returns-clause-named c = λ place tokens.
    let named : c.max-self.result ≡ max c.args.self.now.named (number_named c.args.token.now) =
    omega (arith, c.max-self.ensures, c.number_named.ensures.value, ap (λ f. f.named) c.add_string.ensures.others) in
    ap (λ n. max n (named_in tokens)) named ∙ max-step _ _ _

pub returns-clause-strings : goal.returns-clause-strings
unfolding is_string_in
returns-clause-strings c = λ i place tokens few.
    let token = c.args.token.now in
    let was = slice_index_or c.args.self.now.strings i false in
    ap (λ b. (b || (c.last_after-last.result == suc i && begins_with_taker tokens)) || is_string_in i tokens) (c.add_string.ensures.strings i few)
    ∙ ap (λ n. ((was || (c.args.self.now.last == suc i && takes_string token)) || (n == suc i && begins_with_taker tokens)) || is_string_in i tokens)
    c.last_after-last.ensures.value
    ∙ string-step (is_plain token) (takes_string token) c.args.self.now.last (number_named token) i was (begins_with_taker tokens) (is_string_in i tokens)
    (plain-takes token) (plain-number token)

pub returns-clause-popped : goal.returns-clause-popped
unfolding popped_in
returns-clause-popped c = λ place tokens.
    let more : c.saturating_sub-more.result ≡ popped_by c.args.token.now - c.args.self.now.height =
    omega (arith, c.saturating_sub-more.ensures, c.popped_by-popped.ensures, ap (λ f. f.height) c.add_string.ensures.others) in
    let popped : c.min-self.result ≡ min (c.args.self.now.popped + (popped_by c.args.token.now - c.args.self.now.height)) parameters_max =
    omega (arith, more, c.min-self.ensures, c.saturating_add.ensures, ap (λ f. f.popped) c.add_string.ensures.others) in
    let height : c.saturating_sub.result + c.pushed_by.result ≡ (c.args.self.now.height - popped_by c.args.token.now) + pushed_by c.args.token.now =
    omega (
      arith,
      c.saturating_sub.ensures,
      c.popped_by-popped.ensures,
      c.pushed_by.ensures.value,
      ap (λ f. f.height) c.add_string.ensures.others,
    ) in
    ap (λ n. min (n + (popped_in tokens - (c.saturating_sub.result + c.pushed_by.result))) parameters_max) popped
    ∙ ap (λ h. min (min (c.args.self.now.popped + (popped_by c.args.token.now - c.args.self.now.height)) parameters_max + (popped_in tokens - h)) parameters_max)
    height
    ∙ popped-step _ _ _ _ _ _
