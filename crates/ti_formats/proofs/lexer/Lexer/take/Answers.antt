use Rattle.std.proofs.Common.{◌≡◌, ◌-◌, arith, refl, ap, sym, ◌∙◌, length}
use Rattle.std.specs.Prelude.{None}
use Rattle.ti_formats.specs.Reading.{Unread}
use Rattle.ti_formats.specs.Left.{left_of}
use Rattle.ti_formats.specs.inside.Formats.{with_token, phases_after}
use Rattle.ti_formats.proofs.Lexing.{front-shorter, left-taken, left-refused}
use Rattle.ti_formats.proofs.lexer.Lexer.take.Goals as goal

pub returns-then-not-advance-clause-token : goal.returns-then-not-advance-clause-token
returns-then-not-advance-clause-token c =
    let step : phases_after c.args.self.now.phases c.args.token ≡ None =
    ap (λ u. phases_after u.phases c.args.token) (sym c.self.view_is) ∙ c.if-not-advance.ensures.0 in
    ap (λ s. s.tokens) (left-refused c.args.self.now c.args.token c.args.rest.now c.requires step)

pub invariant_of-self-2 : goal.invariant_of-self-2
invariant_of-self-2 c =
    omega (arith, front-shorter c.args.self.now.text c.args.rest.now c.args.token c.requires, ap (λ u. length u.text) c.self.view_is, c.self.invariant)

-- what is left after the token
abbrev after : goal.After-rest-1 → Unread
after c = record { place = c.self.inside.total - length c.args.rest.now; text = c.args.rest.now; phases = c.advance.new.self }

taken : (c : goal.After-rest-1) → left_of c.args.self.now ≡ with_token (c.self.inside.total - length c.self.inside.rest.now) c.args.token (left_of (after c))
taken c =
    let u = c.args.self.now in
    let step = ap (λ u. phases_after u.phases c.args.token) (sym c.self.view_is) ∙ c.if-not-advance.ensures in
    left-taken u (after c) c.args.token c.args.rest.now c.requires step refl
    (omega (
      arith,
      front-shorter u.text c.args.rest.now c.args.token c.requires,
      ap (λ u. u.place) c.self.view_is,
      ap (λ u. length u.text) c.self.view_is,
      c.self.invariant,
    ))
    ∙ ap (λ p. with_token p c.args.token (left_of (after c))) (ap (λ u. u.place) (sym c.self.view_is))

pub returns-clause-token : goal.returns-clause-token
returns-clause-token c = ap (λ s. s.tokens) (taken c)

pub returns-clause-stop : goal.returns-clause-stop
returns-clause-stop c = sym (ap (λ s. s.stop) (taken c))
