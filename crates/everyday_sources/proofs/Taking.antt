-- Installed entries taken one after another.
use Rattle.std.proofs.Common.{◌≡◌, ◌≢◌, ◌+◌, ◌<◌, ◌≤◌, inl, inr, ℕ, zero, suc, Bool, true, false, cond, List, [], ◌∷◌, ◌++◌, drop, insert, map, length}
use Rattle.std.proofs.Common.{get_or, ◌==◌, Option, Some, None, option_map, Result, Ok, Err, refl, sym, ap, ◌∙◌, subst, append_assoc, append-nil, arith}
use Rattle.std.specs.Global.{Vec}
use Rattle.std.proofs.lemmas.Bool.{eqb-true, true≢false}
use Rattle.std.proofs.lemmas.Bool.Decides.{Decides-eqb}
use Rattle.std.proofs.lemmas.List.{drop_all, length-append}
use Rattle.std.specs.Prelude.{All, IfOk}
use Rattle.std.specs.Str.{IsAscii}
use Rattle.std.proofs.lemmas.List.Elements.{All-head, All-tail}
use Rattle.std.proofs.lemmas.Option.{none-some}
use Rattle.ti_source.specs.declared.parsing.Rule.{Rule}
use Rattle.ti_source.specs.Header.{IsNameByte}
use Rattle.ti_source.specs.Parsing.{reading_of_text}
use Rattle.base_meaning.specs.Edits.{Change, IsRefusal, IsSoundEdit}
use Rattle.base_meaning.specs.declared.edits.EditError.{EditError}
use Rattle.base_meaning.specs.declared.faults.Fault.{Fault}
use Rattle.base_meaning.specs.declared.edits.EditError.TheVariants.{Position, TooLong, NotOneBlock, TooMany, Memory}
use Rattle.base_meaning.specs.Owner.{owner, readings, is_among}
use Rattle.tools_devices.specs.Tree.{FileAt, Files}
use Rattle.everyday_sources.specs.declared.problem.Cause.{Cause}
use Rattle.everyday_sources.specs.Used.{AreFaults, KeepsFaults, OwnNamesWin, ProblemSeen, PutsIn, SourcesComeFirst, TakesFound, TakesGiven, TakesName}
use Rattle.everyday_sources.specs.Used.{TakesNames, missing_names}
use Rattle.everyday_sources.proofs.Finding.{left}

-- what is put in at the end
pub insert_at_end : {X : Type 0} (xs : List X) (x : X) → insert xs (length xs) x ≡ xs ++ x ∷ []
insert_at_end [] x = refl
insert_at_end (y ∷ ys) x = ap (λ zs. y ∷ zs) (insert_at_end ys x)

-- what is refused for another cause than memory is not sound
pub not_sound : (texts : List (List ℕ)) (change : Change) (error : EditError) → error ≢ Memory → IsRefusal texts change error → IsSoundEdit texts change → ⊥
not_sound texts change Position other refused sound = refused sound.in_place
not_sound texts change TooLong other refused sound = refused.1 sound.short
not_sound texts change NotOneBlock other refused sound = refused.2 sound.block
not_sound texts change TooMany other refused sound = refused.3 sound.room
not_sound texts change Memory other refused sound = absurd (other refl)

pub if_ok_weaker : {T E : Type 0} {P Q : T → Type 0} (r : Result T E) → ((x : T) → P x → Q x) → IfOk r P → IfOk r Q
if_ok_weaker (Ok x) f h = f x h
if_ok_weaker (Err e) f h = tt

-- a lookup name is ASCII
pub ascii_name : (name : List ℕ) → All IsNameByte name → IsAscii name
ascii_name [] all zero = omega arith
ascii_name [] all (suc i) = omega arith
ascii_name (x ∷ xs) all zero = let byte = All-head IsNameByte x xs all in omega (arith, byte)
ascii_name (x ∷ xs) all (suc i) = ascii_name xs (All-tail IsNameByte x xs all) i

-- ---- one name after another

-- the names that are left, after one was taken
pub one_taken : {A : Type 0} (see : A → List ℕ) (user_defined : Bool) (files : Option Files) (directories : List (List ℕ)) (names : List A) (i : ℕ) (name : A)
    (texts next last : List (List ℕ)) (before between after : ℕ) (first others : List ProblemSeen)
    → i < length names → name ≡ get_or names i name → TakesName user_defined files directories texts (see name) before between next first
    → TakesNames user_defined files directories next (map see (drop (i + 1) names)) between after last others
    → TakesNames user_defined files directories texts (map see (drop i names)) before after last (first ++ others)
one_taken see user_defined files directories names i name texts next last before between after first others low is step rest =
    rw (left names i name low is) (next, between, first, others, step, rest, refl)

pub none_left : {A : Type 0} (see : A → List ℕ) (user_defined : Bool) (files : Option Files) (directories : List (List ℕ)) (names : List A) (i : ℕ)
    (texts : List (List ℕ)) (failures : ℕ)
    → length names ≤ i → TakesNames user_defined files directories texts (map see (drop i names)) failures failures texts []
none_left see user_defined files directories names i texts failures past = rw (drop_all i names past) (refl, refl, refl)

-- ---- laws

names_append : (name : List ℕ) (texts others : List (List ℕ)) (at : ℕ) → owner (readings texts) name ≡ Some at
    → owner (readings (texts ++ others)) name ≡ Some at
names_append name [] others at e = absurd (none-some at e)
names_append name (text ∷ texts) others at e =
    elim (is_among name (reading_of_text text).names) as (λ b. cond b (Some 0) (option_map (λ k. suc k) (owner (readings texts) name)) ≡ Some at
    → cond b (Some 0) (option_map (λ k. suc k) (owner (readings (texts ++ others)) name)) ≡ Some at) [
      | true ↦ λ h. h
      | false ↦ λ h. later (λ k is. names_append name texts others k is) (owner (readings texts) name) refl h
    ] e
  where
    later : ((k : ℕ) → owner (readings texts) name ≡ Some k → owner (readings (texts ++ others)) name ≡ Some k) → (o : Option ℕ)
        → owner (readings texts) name ≡ o → option_map (λ k. suc k) o ≡ Some at → option_map (λ k. suc k) (owner (readings (texts ++ others)) name) ≡ Some at
    later again None is h = absurd (none-some at h)
    later again (Some k) is h = ap (option_map (λ k. suc k)) (again k is) ∙ h

pub own_names_win : OwnNamesWin
own_names_win texts others name at e = names_append name texts others at e

-- texts with further ones at the end
abbrev Extends : List (List ℕ) → List (List ℕ) → Type 0
Extends texts next = (others : List (List ℕ)) × (next ≡ texts ++ others)

stays : (texts next : List (List ℕ)) → next ≡ texts → Extends texts next
stays texts next e = ([], e ∙ sym (append-nil texts))

puts : (texts : List (List ℕ)) (path text : List ℕ) (next : List (List ℕ)) (problems : List ProblemSeen) → PutsIn texts path text next problems
    → Extends texts next
puts texts path text next problems p = elim p [ inl s ↦ (text ∷ [], s.1) | inr r ↦ stays texts next r.1 ]

gives : (texts : List (List ℕ)) (path : List ℕ) (given : Result (List ℕ) Cause) (next : List (List ℕ)) (problems : List ProblemSeen)
    → TakesGiven texts path given next problems → Extends texts next
gives texts path (Ok text) next problems t = puts texts path text next problems t
gives texts path (Err why) next problems t = stays texts next t.0

finds : (user_defined : Bool) (texts : List (List ℕ)) (name : List ℕ) (found : Option FileAt) (next : List (List ℕ)) (problems : List ProblemSeen)
    → TakesFound user_defined texts name found next problems → Extends texts next
finds user_defined texts name None next problems t = stays texts next t.0
finds user_defined texts name (Some file) next problems t = gives texts file.0 t.0 next problems t.2

takes : (user_defined : Bool) (files : Option Files) (directories texts : List (List ℕ)) (name : List ℕ) (before after : ℕ) (next : List (List ℕ))
    (problems : List ProblemSeen)
    → TakesName user_defined files directories texts name before after next problems → Extends texts next
takes user_defined files directories texts name before after next problems t =
    elim t [ inl o ↦ stays texts next o.1 | inr l ↦ finds user_defined texts name l.1 next problems l.3 ]

further : (texts next last : List (List ℕ)) → Extends texts next → Extends next last → Extends texts last
further texts next last one other = (one.0 ++ other.0, other.1 ∙ ap (λ front. front ++ other.0) one.1 ∙ append_assoc texts one.0 other.0)

all_taken : (user_defined : Bool) (files : Option Files) (directories texts names : List (List ℕ)) (before after : ℕ) (last : List (List ℕ))
    (problems : List ProblemSeen)
    → TakesNames user_defined files directories texts names before after last problems → Extends texts last
all_taken user_defined files directories texts [] before after last problems t = stays texts last t.0
all_taken user_defined files directories texts (name ∷ names) before after last problems t =
    further texts t.0 last (takes user_defined files directories texts name before t.1 t.0 t.2 t.4)
    (all_taken user_defined files directories t.0 names t.1 after last t.3 t.5)

pub sources_come_first : SourcesComeFirst
sources_come_first rule user_defined files directories texts before after last problems t =
    all_taken user_defined files directories texts (missing_names rule texts) before after last problems t

-- ---- the faults

none_after : (others : List (List ℕ)) → length others ≡ 0 → others ≡ []
none_after [] is = refl
none_after (text ∷ others) is = absurd (omega (arith, is))

-- if there are no more blocks than before, they are the same
pub same_blocks : (texts last others : List (List ℕ)) → last ≡ texts ++ others → length last ≡ length texts → last ≡ texts
same_blocks texts last others is many =
    let none : length others ≡ 0 = (let long = ap length is in omega (arith, long, many, length-append texts others)) in
    is ∙ ap (λ ts. texts ++ ts) (none_after others none) ∙ append-nil texts

-- the faults of the source, if no block was put after it
pub keeps_faults : (rule : Rule) (user_defined : Bool) (files : Option Files) (directories texts names last : List (List ℕ)) (before after : ℕ)
    (problems : List ProblemSeen) (found : Vec Fault) (given : Option (Vec Fault))
    → TakesNames user_defined files directories texts names before after last problems
    → AreFaults rule texts found.items → given ≡ cond (length last == length texts) (Some found) None → KeepsFaults rule texts last given
keeps_faults rule user_defined files directories texts names last before after problems found given taken are is =
    subst (KeepsFaults rule texts last) (sym is) (by_test (length last == length texts) refl)
  where
    extends : Extends texts last
    extends = all_taken user_defined files directories texts names before after last problems taken

    by_test : (b : Bool) → (length last == length texts) ≡ b → KeepsFaults rule texts last (cond b (Some found) None)
    by_test true same =
        let many : length last ≡ length texts = eqb-true (length last) (length texts) same in
        (many, subst (λ ts. AreFaults rule ts found.items) (sym (same_blocks texts last extends.0 extends.1 many)) are)
    by_test false other = λ many. true≢false (sym ((Decides-eqb (length last) (length texts)).1 many) ∙ other)
