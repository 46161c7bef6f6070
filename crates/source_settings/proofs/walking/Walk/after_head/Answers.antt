use Rattle.std.proofs.Common.{◌≡◌, ◌∙◌, [], ℕ, List, map, refl, subst, sym, true}
use Rattle.std.proofs.lemmas.Bool.{and_parts}
use Rattle.source_places.specs.LineTexts.{line_of}
use Rattle.source_settings.specs.Comments.{is_head}
use Rattle.source_settings.proofs.Lines.{after-head, after-quiet}
use Rattle.source_settings.proofs.walking.Walk.after_head.Goals as goal

pub invariant_of-result : goal.invariant_of-result
invariant_of-result c =
    let walk = c.self.inside in
    let above = map (λ code. code.now) walk.above.items in
    let head : is_head (line_of walk.text.now walk.number) ≡ true =
    subst (λ (w : List ℕ × ℕ). is_head (line_of w.0 w.1) ≡ true) (sym c.self.view_is) c.requires.head in
    let both = and_parts _ _ (sym c.is_nothing.ensures ∙ c.if-is_nothing.true) in
    let none : above ≡ [] = rw c.as_slice.ensures.value at (c.is_none-is_empty.ensures both.1) in
    rw c.new.ensures.items
    (after-quiet walk.text.now walk.number walk.all.items above walk.is_quiet walk.is_quiet c.self.invariant head both.0 none)

pub invariant_of-result-2 : goal.invariant_of-result-2
invariant_of-result-2 c =
    let walk = c.self.inside in
    let above = map (λ code. code.now) walk.above.items in
    let head : is_head (line_of walk.text.now walk.number) ≡ true =
    subst (λ (w : List ℕ × ℕ). is_head (line_of w.0 w.1) ≡ true) (sym c.self.view_is) c.requires.head in
    rw (c.in_ok-push.ensures.items, c.new-2.ensures.items)
    (after-head walk.text.now walk.number walk.all.items _ above walk.is_quiet c.is_none-is_empty.result c.self.invariant head refl refl
    (λ is. rw c.as_slice.ensures.value at (c.is_none-is_empty.ensures is)))
