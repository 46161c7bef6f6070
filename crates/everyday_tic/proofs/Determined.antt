-- Only one outcome comes of a source, when no read fails.
use Rattle.std.proofs.Common.{◌≡◌, ◌⊎◌, ◌+◌, ◌<◌, ◌≤◌, inl, inr, ℕ, zero, suc, Bool, true, false, List, [], ◌∷◌, take, map, length, Option, None, Some, sym, ap, ◌∙◌, subst, arith, true≢false}
use Rattle.ti_source.specs.declared.parsing.Rule.{Rule}
use Rattle.ti_source.specs.declared.parsing.Rule.TheVariants.{OwnFirst}
use Rattle.base_meaning.specs.Compiled.{EntryState}
use Rattle.tools_devices.specs.Tree.{Files}
use Rattle.tools_sources.specs.Sources.{SourcesHaveOneRefusal, TakenSourcesAreNotRefused, first_line, source_texts}
use Rattle.user_kept.specs.Kept.{StatesAreDetermined}
use Rattle.user_items.specs.Parsing.{user_reading_of_text}
use Rattle.user_values.specs.Limit.{IsOverLimitAt, distinct_after, name_count, name_limit, names_in, names_of}
use Rattle.user_values.proofs.Naming.{distinct_after-append, distinct_after-longer}
use Rattle.source_plain.specs.Reading.{plain_source}
use Rattle.everyday_sources.specs.Used.{ProblemSeen, UsedEntriesAreDetermined}
use Rattle.everyday_constants.specs.Laws.{OneWithCharacters}
use Rattle.everyday_graphics.specs.Laws.{WrittenStatesAreDetermined}
use Rattle.everyday_names.specs.Fields.{fitted, long_field}
use Rattle.everyday_tic.specs.Entries.{BecomeThese}
use Rattle.everyday_tic.specs.Laws.{OutcomesAreDetermined}
use Rattle.everyday_tic.specs.Outcomes.{Asked, ComesOf, ComesOfBlocks, ComesOfPlain, Made, compilation, made_of, names_refusal, refusal_of, termcap_refusal, written_of}
use Rattle.everyday_tic.specs.Characters.{AreWithCharacters}
use Rattle.everyday_tic.specs.Termcap.{IsFirstTermcap}
use Rattle.everyday_tic.proofs.Spelled.{one-spelled}

-- ---- the block with one user-defined name too many

no_more : (a b c d : ℕ) → a ≡ c → b ≡ d → c ≤ d → a ≤ b
no_more a b c d e f le = omega (arith, e, f, le)

-- more blocks have no fewer names
no_fewer : (found texts : List (List ℕ)) (n m : ℕ) → n ≤ m
    → length (distinct_after found (names_in (map user_reading_of_text (take n texts))))
    ≤ length (distinct_after found (names_in (map user_reading_of_text (take m texts))))
no_fewer found texts zero m le = distinct_after-longer found (names_in (map user_reading_of_text (take m texts)))
no_fewer found texts (suc n) zero le = absurd (omega (arith, le))
no_fewer found [] (suc n) (suc m) le = omega arith
no_fewer found (text ∷ texts) (suc n) (suc m) le =
    let names = names_of (user_reading_of_text text).items in
    no_more _ _ _ _ (ap length (distinct_after-append found names (names_in (map user_reading_of_text (take n texts)))))
    (ap length (distinct_after-append found names (names_in (map user_reading_of_text (take m texts)))))
    (no_fewer (distinct_after found names) texts n m (omega (arith, le)))

counts_rise : (texts : List (List ℕ)) (n m : ℕ) → n ≤ m → name_count texts n ≤ name_count texts m
counts_rise texts n m le = no_fewer [] texts n m le

at_most_or_over : (a b : ℕ) → (a ≤ b) ⊎ (b < a)
at_most_or_over zero b = inl (omega arith)
at_most_or_over (suc a) zero = inr (omega arith)
at_most_or_over (suc a) (suc b) = elim (at_most_or_over a b) [ inl le ↦ inl (omega (arith, le)) | inr over ↦ inr (omega (arith, over)) ]

not_before : (texts : List (List ℕ)) (at place : ℕ) → IsOverLimitAt texts at → IsOverLimitAt texts place → place ≤ at
not_before texts at place over further = by_order (at_most_or_over place at)
  where
    by_order : (place ≤ at) ⊎ (at < place) → place ≤ at
    by_order (inl le) = le
    by_order (inr later) =
        let most = further.before in
        let past = over.over in
        let rise = counts_rise texts (at + 1) place (omega (arith, later)) in
        absurd (omega (arith, rise, most, past))

one_place : (texts : List (List ℕ)) (at place : ℕ) → IsOverLimitAt texts at → IsOverLimitAt texts place → at ≡ place
one_place texts at place over further =
    let one = not_before texts at place over further in
    let other = not_before texts place at further over in
    omega (arith, one, other)

not_few : {Y : Type 0} (texts : List (List ℕ)) (at : ℕ) → IsOverLimitAt texts at → name_count texts (length texts) ≤ name_limit → Y
not_few texts at over few =
    let within = over.within in
    let past = over.over in
    let rise = counts_rise texts (at + 1) (length texts) (omega (arith, within)) in
    absurd (omega (arith, few, past, rise))

-- ---- the first block that is termcap

not_after : (blocks : List (List ℕ)) (at place : ℕ) → IsFirstTermcap blocks (Some at) → IsFirstTermcap blocks (Some place) → place ≤ at
not_after blocks at place one other = by_order (at_most_or_over place at)
  where
    by_order : (place ≤ at) ⊎ (at < place) → place ≤ at
    by_order (inl le) = le
    by_order (inr later) = absurd (true≢false (sym one.0.2 ∙ other.1 at one.0.0 later one.0.1))

one_termcap : (blocks : List (List ℕ)) (at place : ℕ) → IsFirstTermcap blocks (Some at) → IsFirstTermcap blocks (Some place) → at ≡ place
one_termcap blocks at place one other =
    let le = not_after blocks at place one other in
    let ge = not_after blocks place at other one in
    omega (arith, le, ge)

not_termcap : {Y : Type 0} (blocks : List (List ℕ)) (at : ℕ) → IsFirstTermcap blocks (Some at) → IsFirstTermcap blocks None → Y
not_termcap blocks at is none = absurd (true≢false (sym is.0.2 ∙ none at is.0.0 is.0.1))

-- ---- what becomes of the blocks

one_list : StatesAreDetermined → (rule : Rule) (user_defined : Bool) (texts : List (List ℕ)) (states others : List EntryState)
    → BecomeThese rule user_defined texts states → BecomeThese rule user_defined texts others → states ≡ others
one_list determined rule true texts states others g h = determined rule texts states others g h
one_list determined rule false texts states others g h = g ∙ sym h

-- ---- what comes of the source

module _ (determined : StatesAreDetermined) (written_states_are_determined : WrittenStatesAreDetermined) (law : OneWithCharacters) (rule : Rule) (asked : Asked)
    (file : List ℕ)
  where
    one_of_all : (first : ℕ) (fields : List (Option (List ℕ))) (texts : List (List ℕ)) (count : ℕ) (problems : List ProblemSeen) (one other : Made)
        → ComesOf rule asked file first fields texts count problems one → ComesOf rule asked file first fields texts count problems other → one ≡ other
    one_of_all first fields texts count problems one other (inl g) (inl h) =
        g.3 ∙ ap (names_refusal file first texts) (one_place texts g.1 h.1 g.2 h.2) ∙ sym h.3
    one_of_all first fields texts count problems one other (inl g) (inr h) = not_few texts g.1 g.2 (h.0 g.0)
    one_of_all first fields texts count problems one other (inr g) (inl h) = not_few texts h.1 h.2 (g.0 h.0)
    one_of_all first fields texts count problems one other (inr g) (inr h) =
        let drawn = written_states_are_determined rule asked.user_defined asked.draws texts g.3 h.3 g.4 h.4 in
        let again = subst (λ ss. AreWithCharacters asked.check ss h.5) (sym drawn) h.6 in
        g.7
        ∙ ap (λ states. compilation rule asked file first texts count states (written_of asked fields g.5) problems) (one_list determined rule asked.user_defined texts g.1 h.1 g.2 h.2)
        ∙ ap (λ spelled. compilation rule asked file first texts count h.1 (written_of asked fields spelled) problems)
        (one-spelled law asked.check g.3 g.5 h.5 g.6 again)
        ∙ sym h.7

    one_of_blocks : UsedEntriesAreDetermined → (files : Files) (directories : List (List ℕ)) (first : ℕ) (fields : List (Option (List ℕ)))
        (blocks : List (List ℕ)) (before since : ℕ)
        (one other : Made) → ComesOfBlocks rule asked (Some files) directories file first fields blocks before before one
        → ComesOfBlocks rule asked (Some files) directories file first fields blocks since since other → one ≡ other
    one_of_blocks used files directories first fields blocks before since one other (inl g) (inl h) =
        g.3 ∙ ap (termcap_refusal file first blocks) (one_termcap blocks g.0 h.0 g.1 h.1) ∙ sym h.3
    one_of_blocks used files directories first fields blocks before since one other (inl g) (inr h) = not_termcap blocks g.0 g.1 h.0
    one_of_blocks used files directories first fields blocks before since one other (inr g) (inl h) = not_termcap blocks h.0 h.1 g.0
    one_of_blocks used files directories first fields blocks before since one other (inr g) (inr h) =
        let same = used rule asked.user_defined files directories blocks before since g.1 h.1 g.2 h.2 g.3 h.3 in
        let by_texts = subst (λ ts. ComesOf rule asked file first fields ts (length blocks) h.2 other) (sym same.0) h.4 in
        let by_problems = subst (λ ps. ComesOf rule asked file first fields g.1 (length blocks) ps other) (sym same.1) by_texts in
        one_of_all first fields g.1 (length blocks) g.2 one other g.4 by_problems

module _ (determined : StatesAreDetermined) (drawn : WrittenStatesAreDetermined) (law : OneWithCharacters) (asked : Asked) (file : List ℕ) where
  one_of_plain : SourcesHaveOneRefusal → TakenSourcesAreNotRefused → UsedEntriesAreDetermined → (files : Files) (directories : List (List ℕ))
      (source : List ℕ) (before since : ℕ) (one other : Made) → ComesOfPlain asked (Some files) directories file source before before one
      → ComesOfPlain asked (Some files) directories file source since since other → one ≡ other
  one_of_plain refused not_refused used files directories source before since one other (inl g) (inl h) =
      g.3 ∙ ap (refusal_of file) (refused source g.0 h.0 g.1 h.1) ∙ sym h.3
  one_of_plain refused not_refused used files directories source before since one other (inl g) (inr h) =
      absurd (not_refused source g.0 h.0 g.1)
  one_of_plain refused not_refused used files directories source before since one other (inr g) (inl h) =
      absurd (not_refused source h.0 g.0 h.1)
  one_of_plain refused not_refused used files directories source before since one other (inr g) (inr h) =
      one_of_blocks determined drawn law OwnFirst asked file used files directories (first_line source) (map long_field (source_texts source))
      (map fitted (source_texts source)) before since one other g.1 h.1

pub outcomes_are_determined : SourcesHaveOneRefusal → TakenSourcesAreNotRefused → UsedEntriesAreDetermined → StatesAreDetermined
    → WrittenStatesAreDetermined → OneWithCharacters → OutcomesAreDetermined
outcomes_are_determined refused not_refused used determined drawn law asked files directories file source before since one other g h =
    one_of_plain determined drawn law asked file refused not_refused used files directories (plain_source source) before since (made_of one) (made_of other) g h
