-- What is printed of entries in termcap's form, in turn.
use Rattle.std.proofs.Common.{◌≡◌, ℕ, ◌+◌, ◌<◌, ◌≤◌, Bool, List, [], ◌∷◌, ◌++◌, length, map, drop}
use Rattle.std.proofs.Common.{get_or, refl, append_assoc, append-nil, add-one, ◌∙◌}
use Rattle.std.proofs.Math.Seq.{drop-cons}
use Rattle.std.proofs.lemmas.List.{drop_all}
use Rattle.ti_layout.specs.View.{entry_seen}
use Rattle.ti_layout.specs.declared.view.View.{View}
use Rattle.everyday_termcap.specs.Whole.{IsTermcap}
use Rattle.everyday_termcap.specs.declared.items.Lines.{Lines}
use Rattle.everyday_infocmp.specs.TermcapListings.{AreTermcaps}

-- after one was written, the same is known of what is still to come
pub one_more : (limited all : Bool) (form : Lines) (views : List View) (place : ℕ) (view : View) (before one after : List ℕ)
    → place < length views → view ≡ get_or views place view → IsTermcap (entry_seen view) limited all form one → after ≡ before ++ one
    → ((later : List ℕ) → AreTermcaps limited all form (map (λ v. entry_seen v) (drop place views)) later
    → AreTermcaps limited all form (map (λ v. entry_seen v) views) (before ++ later))
    → (later : List ℕ) → AreTermcaps limited all form (map (λ v. entry_seen v) (drop (place + 1) views)) later
    → AreTermcaps limited all form (map (λ v. entry_seen v) views) (after ++ later)
one_more limited all form views place view before one after within is written writes known later rest =
    let front : drop place views ≡ view ∷ drop (place + 1) views = drop-cons views place view within ∙ rw (← is, add-one) refl in
    let both : AreTermcaps limited all form (map (λ v. entry_seen v) (drop place views)) (one ++ later) = rw front (one, later, written, rest, refl) in
    rw (writes, append_assoc) (known (one ++ later) both)

-- after the last, all are written
pub all_written : (limited all : Bool) (form : Lines) (views : List View) (place : ℕ) (before : List ℕ) → length views ≤ place
    → ((later : List ℕ) → AreTermcaps limited all form (map (λ v. entry_seen v) (drop place views)) later
    → AreTermcaps limited all form (map (λ v. entry_seen v) views) (before ++ later))
    → AreTermcaps limited all form (map (λ v. entry_seen v) views) before
all_written limited all form views place before past known =
    let none : drop place views ≡ [] = drop_all place views past in
    let rest : AreTermcaps limited all form (map (λ v. entry_seen v) (drop place views)) [] = rw none refl in
    rw append-nil at (known [] rest)
