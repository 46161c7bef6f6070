use Rattle.std.proofs.Common.{◌≡◌, ◌<◌, ◌≤◌, ℕ, List, ◌++◌, length, ap, sym, ◌∙◌, subst, arith}
use Rattle.ti_layout.specs.declared.layout.Format.TheVariants.{Legacy}
use Rattle.ti_layout.specs.Layout.{number_bytes, number_section}
use Rattle.ti_layout.proofs.Below.{below-same}
use Rattle.ti_compiled.specs.inside.Bytes.{Replaces}
use Rattle.ti_compiled.proofs.Numbering.{place-set}
use Rattle.ti_compiled.proofs.texts.put_offset.Goals as goal

as_word : (old new : List ℕ) (at n : ℕ) (part : List ℕ) → part ≡ number_bytes Legacy n → Replaces old new at (length part) (λ _. part)
    → Replaces old new at 2 (λ _. number_bytes Legacy n)
as_word old new at n part e h = subst (λ x. Replaces old new at (length x) (λ _. x)) e h

beyond : (i n j : ℕ) → j ≡ i → j < n → n ≤ i → ⊥
beyond i n j e lt le = omega arith

pub returns-then-index-count-clause-put : goal.returns-then-index-count-clause-put
returns-then-index-count-clause-put c = λ p r f g whole long here others.
    place-set Legacy p r c.args.begin long c.args.bytes.now.items c.overwrite.new.bytes.items f g c.args.count c.args.index c.args.offset
    c.if-index-count.true (here c.if-index-count.true) others whole
    (as_word _ _ _ _ _ c.word_bytes.ensures c.overwrite.ensures.part)

pub returns-else-index-count-clause-put : goal.returns-else-index-count-clause-put
returns-else-index-count-clause-put c = λ p r f g whole long here others.
    whole ∙ ap (λ t. p ++ (number_section Legacy t ++ r))
    (below-same f g c.args.count (λ j lt. sym (others j (λ same. absurd (beyond c.args.index c.args.count j same lt c.if-index-count.false)))))
