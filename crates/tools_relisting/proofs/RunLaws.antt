-- What a run of insertions leaves, each of which is accepted.
use Rattle.std.proofs.Common.{◌≡◌, ℕ, suc, All, List, [], ◌∷◌, ◌++◌, length, insert, sym, ap, ◌∙◌, subst, arith}
use Rattle.std.proofs.lemmas.List.{append-nil, append_assoc, length-append}
use Rattle.std.proofs.lemmas.List.Elements.{All-head, All-tail}
use Rattle.std.proofs.Math.Seq.{drop-length, take-length}
use Rattle.base_meaning.specs.Compiled.{compiled}
use Rattle.base_meaning.specs.Edits.{EditRun}
use Rattle.base_meaning.specs.declared.edits.Outcome.{Outcome}
use Rattle.base_meaning.specs.declared.edits.Outcome.TheVariants.{Accepted, Refused}
use Rattle.tools_relisting.specs.Entries.{Relistings, RelativeSource, listings}
use Rattle.ti_list.specs.RelativeSource.{with_others}
use Rattle.tools_relisting.specs.Runs.{RelativeSourceByRun, RelistingsByRun, RunsLeaveTheirTexts, insertions}

insert-end : (texts : List (List ℕ)) (text : List ℕ) → insert texts (length texts) text ≡ texts ++ text ∷ []
insert-end texts text = rw (take-length texts, drop-length texts)

inserted : (front texts : List (List ℕ)) (outcomes : List Outcome) (last : List (List ℕ)) → EditRun front (insertions (length front) texts) outcomes last
    → All (λ outcome. outcome ≡ Accepted) outcomes → last ≡ front ++ texts
inserted front [] [] last run all = run ∙ sym (append-nil front)
inserted front [] (outcome ∷ outcomes) last run all = absurd run
inserted front (text ∷ texts) [] last run all = absurd run
inserted front (text ∷ texts) (Accepted ∷ outcomes) last run all =
    let next : run.0 ≡ front ++ text ∷ [] = run.1.1 ∙ insert-end front text in
    let longer : suc (length front) ≡ length (front ++ text ∷ []) = sym (omega (arith, length-append front (text ∷ []))) in
    inserted (front ++ text ∷ []) texts outcomes last
    (subst (λ (k : ℕ). EditRun (front ++ text ∷ []) (insertions k texts) outcomes last) longer
    (subst (λ (blocks : List (List ℕ)). EditRun blocks (insertions (suc (length front)) texts) outcomes last) next run.2))
    (All-tail (λ outcome. outcome ≡ Accepted) Accepted outcomes all)
    ∙ append_assoc front (text ∷ []) texts
inserted front (text ∷ texts) (Refused error ∷ outcomes) last run all =
    let bad : Refused error ≡ Accepted = All-head (λ outcome. outcome ≡ Accepted) (Refused error) outcomes all in
    absurd (cc)

pub runs_leave : RunsLeaveTheirTexts
runs_leave texts last made = inserted [] texts made.0 last made.1 made.2

pub relisted_by_run : Relistings → RelistingsByRun
relisted_by_run law entries layout last of_sources made i entry here =
    ap (λ (texts : List (List ℕ)). compiled texts i) (runs_leave (listings entries layout) last made) ∙ (law entries layout of_sources).1 i entry here

pub relative_by_run : RelativeSource → RelativeSourceByRun
relative_by_run law bytes shown layout listed last is used owned made =
    ap (λ (texts : List (List ℕ)). compiled texts 0) (runs_leave (with_others shown layout listed) last made) ∙ (law bytes shown layout listed is used owned).1
