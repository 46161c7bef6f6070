use Rattle.std.proofs.Common.{◌≤◌, [], ◌∷◌, All, Bor, List, ℕ, get_or, length, subst, sym, arith}
use Rattle.std.proofs.lemmas.List.{take_all, take_more}
use Rattle.std.proofs.lemmas.List.Elements.{All-append, All-cons, All-map, All-nil}
use Rattle.ti_text.specs.Limits.{block_bytes_max}
use Rattle.source_document.proofs.taking.are_few_and_short.Goals as goal

-- what is past the end of the texts
no_text : Bor (List ℕ)
no_text = record { ref_ptr = (0, 0); now = [] }

abbrev IsShort : Bor (List ℕ) → Type 0
IsShort text = length text.now ≤ block_bytes_max

pub loop-text-init : goal.loop-text-init
loop-text-init c k d less = absurd (omega (arith, less))

pub loop-text-preserved : goal.loop-text-preserved
unfolding no_text
loop-text-preserved c =
    let texts = c.args.texts.now in
    let at = c.loop-text.text-index in
    let one : All IsShort (get_or texts at no_text ∷ []) = All-cons IsShort (get_or texts at no_text) [] (omega arith) (All-nil IsShort) in
    subst (λ (front : List (Bor (List ℕ))). All IsShort front) (sym (take_more texts at no_text c.loop-text-test.true))
    (All-append IsShort _ _ c.loop-text.invariant one)

pub returns-clause-short : goal.returns-clause-short
returns-clause-short c few =
    let texts = c.args.texts.now in
    All-map (λ (text : List ℕ). length text ≤ block_bytes_max) (λ (text : Bor (List ℕ)). text.now) texts
    (subst (λ (front : List (Bor (List ℕ))). All IsShort front) (take_all c.loop-text.text-index texts c.loop-text-test.false) c.loop-text.invariant)
