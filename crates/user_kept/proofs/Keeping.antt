-- What was found out about a block stays right after an edit on which the block does not depend.
use Rattle.std.proofs.Common.{◌≡◌, ℕ, zero, suc, ◌+◌, ◌<◌, ◌≤◌, inl, inr, false, nat_eq, List, [], ◌∷◌, length, set, get_or, Option, Some, None, slice_get}
use Rattle.std.proofs.Common.{refl, sym, ap, ◌∙◌, subst, arith, Contains, All, ◌⊎◌}
use Rattle.std.specs.List.{AllZip, insert, remove}
use Rattle.std.specs.Option.{is_some, option_map}
use Rattle.std.proofs.lemmas.Bool.{cases_Bool, false≢true}
use Rattle.std.proofs.lemmas.List.{length-map, length-set}
use Rattle.std.proofs.lemmas.List.Edits.{length-insert, length-remove}
use Rattle.std.proofs.lemmas.List.Elements.{Contains-get_or}
use Rattle.std.proofs.lemmas.Option.{none-some, same_Some, slice_get_within}
use Rattle.ti_text.proofs.Lists.{get-set_other, get-set_same, item_at}
use Rattle.ti_source.specs.Parsing.{reading_of_text}
use Rattle.ti_layout.specs.Values.{Mention, contents}
use Rattle.base_meaning.specs.Compiled.{EntryState}
use Rattle.base_meaning.specs.Dependents.{IsDependent}
use Rattle.base_meaning.specs.Edits.{Change, insertion, list_after, relocation, removal, replacement, with_item_moved}
use Rattle.base_meaning.specs.Exchange.{exchange_of, new_list}
use Rattle.base_meaning.specs.Expansion.{expansion as expansion_there}
use Rattle.base_meaning.specs.Owner.{readings}
use Rattle.base_meaning.specs.ValueTables.{HasTable}
use Rattle.base_meaning.proofs.ExchangeLaws.{exchanged}
use Rattle.user_items.specs.Parsing.{user_reading_of_text}
use Rattle.user_values.specs.Expansion.{expansion}
use Rattle.user_values.specs.Limit.{name_count, names_of}
use Rattle.user_compiling.specs.Entries.{AreStates, IsStateOf, does_not_resolve, does_resolve}
use Rattle.user_compiling.specs.Findings.{AreFindingsBy, IsFindingBy}
use Rattle.user_compiling.specs.declared.finding.Finding.{Finding}
use Rattle.user_values.proofs.Resolving.{read_text}
use Rattle.user_kept.specs.Places.{position_ahead, position_before}
use Rattle.user_kept.proofs.Places.{PutsAt, put_in, remained}
use Rattle.user_kept.specs.Untouched.{UntouchedBlocksSayTheSame}
use Rattle.user_kept.specs.inside.Kept.{AreRight, AreRightOff, IsKeptBefore, IsRightOf}
use Rattle.user_kept.specs.declared.kept.Kept.{Kept}
use Rattle.user_kept.proofs.Names.{few_inserted, few_more, few_removed}

get-inserted_there : {X : Type 0} (xs : List X) (place : ℕ) (x : X) → place ≤ length xs → slice_get (insert xs place x) place ≡ Some x
get-inserted_there [] zero x l = refl
get-inserted_there [] (suc k) x l = absurd (omega (arith, l))
get-inserted_there (y ∷ ys) zero x l = refl
get-inserted_there (y ∷ ys) (suc k) x l = get-inserted_there ys k x (omega (arith, l))

state_stays : (texts next : List (List ℕ)) (text : List ℕ) (state : EntryState) → expansion next text ≡ expansion texts text
    → expansion_there (readings next) (reading_of_text text) ≡ expansion_there (readings texts) (reading_of_text text)
    → IsStateOf texts text state → IsStateOf next text state
state_stays texts next text _ e f (does_not_resolve none) = does_not_resolve (f ∙ none)
state_stays texts next text _ e f (does_resolve {state = state} h) = does_resolve (record {
  mentions = h.mentions;
  user_mentions = h.user_mentions;
  rows = h.rows;
  expands = f ∙ h.expands;
  user_expands = e ∙ h.user_expands;
  are_rows = h.are_rows;
  is = h.is;
})

module _ (next : List (List ℕ)) (edit : List ℕ → Change) (rebuilt : List ℕ) (kept : Kept) (h : IsKeptBefore next edit rebuilt kept) where
  dependent_within : (at : ℕ) → Contains rebuilt at → at < length next
  dependent_within at c =
      let d = (h.dependents.dependents at).0 c in
      let led = exchanged h.texts (edit h.text) h.in_place in
      let here = ap (λ bs. slice_get bs at) (sym (led.new ∙ ap readings (sym h.next_is))) ∙ d.1 in
      let l : at < length (readings next) = slice_get_within (readings next) at d.0 here in
      let n = length-map next reading_of_text in
      omega (arith, l, n)

  pub within_kept : All (λ at. at < length next) rebuilt
  within_kept = λ k d l. dependent_within (get_or rebuilt k d) (Contains-get_or rebuilt k d l)

  -- a block that stays right, found at another position of what is kept
  right_there : UntouchedBlocksSayTheSame → (findings : List Finding)
      → ((at : ℕ) → (PutsAt (edit h.text) at → ⊥) → slice_get findings at ≡ slice_get kept.findings.items (position_before (edit h.text) at))
      → AreRightOff next rebuilt findings
  right_there law findings moved = λ at text finding off stands f.
      let change = edit h.text in
      let there : slice_get (list_after h.texts change) at ≡ Some text = ap (λ (xs : List (List ℕ)). slice_get xs at) (sym h.next_is) ∙ stands in
      let other : IsDependent (exchange_of h.texts change) at → ⊥ = λ d. off ((h.dependents.dependents at).1 d) in
      let same = law h.texts change at text h.in_place there other in
      let led = exchanged h.texts change h.in_place in
      let here : slice_get (new_list (exchange_of h.texts change)) at ≡ Some (reading_of_text text) =
      ap (λ bs. slice_get bs at) led.new ∙ read_text (list_after h.texts change) at text there in
      let apart : PutsAt change at → ⊥ = λ p. other (reading_of_text text, here, inl (put_in h.texts change at h.in_place p)) in
      let right = h.kept_of.findings.each (position_before change at) text finding same.stood (sym (moved at apart) ∙ f) in
      subst (λ (xs : List (List ℕ)). IsRightOf xs text finding) (sym h.next_is) (record {
        state = right.state;
        becomes = state_stays h.texts (list_after h.texts change) text right.state same.user_mentions same.mentions right.becomes;
        by = right.by;
      })

-- ---- a block is replaced

module _ (next : List (List ℕ)) (place : ℕ) (rebuilt : List ℕ) (kept : Kept) (h : IsKeptBefore next (replacement place) rebuilt kept) where
  pub as_many_replaced : length kept.findings.items ≡ length next
  as_many_replaced = h.kept_of.findings.as_many ∙ sym (ap (λ (xs : List (List ℕ)). length xs) h.next_is ∙ length-set h.texts place h.text)

  pub right_replaced : UntouchedBlocksSayTheSame → AreRightOff next rebuilt kept.findings.items
  right_replaced law = right_there next (replacement place) rebuilt kept h law kept.findings.items (λ at apart. refl)

  pub stands_replaced : slice_get next place ≡ Some h.text
  stands_replaced =
      let old = item_at h.texts place h.in_place in
      ap (λ (xs : List (List ℕ)). slice_get xs place) h.next_is ∙ get-set_same h.texts place old.0 h.text old.1

  -- no more names than were kept, and those of the new block
  pub names_replaced : name_count next (length next) ≤ kept.names + length (names_of (user_reading_of_text h.text).items)
  names_replaced =
      let a = few_more h.texts place h.text h.in_place in
      let b = h.kept_of.names in
      let c = ap (λ (xs : List (List ℕ)). name_count xs (length xs)) h.next_is in
      omega (arith, a, b, c)

-- ---- a block is put in

module _ (next : List (List ℕ)) (place : ℕ) (rebuilt : List ℕ) (kept : Kept) (h : IsKeptBefore next (insertion place) rebuilt kept) where
  pub place_inserted : place ≤ length kept.findings.items
  place_inserted =
      let l : place ≤ length h.texts = h.in_place in
      let n = h.kept_of.findings.as_many in
      omega (arith, l, n)

  pub as_many_inserted : (finding : Finding) → length (insert kept.findings.items place finding) ≡ length next
  as_many_inserted finding =
      let l : place ≤ length h.texts = h.in_place in
      let n = h.kept_of.findings.as_many in
      let a = length-insert kept.findings.items place finding place_inserted in
      let b = length-insert h.texts place h.text l in
      let c = ap (λ (xs : List (List ℕ)). length xs) h.next_is in
      omega (arith, a, b, c, n)

  pub right_inserted : UntouchedBlocksSayTheSame → (finding : Finding) → AreRightOff next rebuilt (insert kept.findings.items place finding)
  right_inserted law finding =
      right_there next (insertion place) rebuilt kept h law (insert kept.findings.items place finding)
      (λ at apart. remained h.texts (insertion place h.text) kept.findings.items finding at h.in_place h.kept_of.findings.as_many apart)

  pub stands_inserted : slice_get next place ≡ Some h.text
  stands_inserted = ap (λ (xs : List (List ℕ)). slice_get xs place) h.next_is ∙ get-inserted_there h.texts place h.text h.in_place

  pub names_inserted : name_count next (length next) ≤ kept.names + length (names_of (user_reading_of_text h.text).items)
  names_inserted =
      let a = few_inserted h.texts place h.text h.in_place in
      let b = h.kept_of.names in
      let c = ap (λ (xs : List (List ℕ)). name_count xs (length xs)) h.next_is in
      omega (arith, a, b, c)

-- ---- a block is taken out

module _ (next : List (List ℕ)) (place : ℕ) (rebuilt : List ℕ) (kept : Kept) (h : IsKeptBefore next (λ _. removal place) rebuilt kept) where
  pub place_removed : place < length kept.findings.items
  place_removed =
      let l : place < length h.texts = h.in_place in
      let n = h.kept_of.findings.as_many in
      omega (arith, l, n)

  pub as_many_removed : length (remove kept.findings.items place) ≡ length next
  as_many_removed =
      let l : place < length h.texts = h.in_place in
      let n = h.kept_of.findings.as_many in
      let a = length-remove kept.findings.items place place_removed in
      let b = length-remove h.texts place l in
      let c = ap (λ (xs : List (List ℕ)). length xs) h.next_is in
      omega (arith, a, b, c, n)

  pub right_removed : UntouchedBlocksSayTheSame → (finding : Finding) → AreRightOff next rebuilt (remove kept.findings.items place)
  right_removed law finding =
      right_there next (λ _. removal place) rebuilt kept h law (remove kept.findings.items place)
      (λ at apart. remained h.texts (removal place) kept.findings.items finding at h.in_place h.kept_of.findings.as_many apart)

  pub names_removed : name_count next (length next) ≤ kept.names
  names_removed =
      let a = few_removed h.texts place in
      let b = h.kept_of.names in
      let c = ap (λ (xs : List (List ℕ)). name_count xs (length xs)) h.next_is in
      omega (arith, a, b, c)

-- ---- a block is moved

moved_some : {X : Type 0} (xs : List X) (from to : ℕ) (x : X) → slice_get xs from ≡ Some x → with_item_moved xs from to ≡ insert (remove xs from) to x
moved_some xs from to x e = rw e refl

module _ (next : List (List ℕ)) (from to : ℕ) (rebuilt : List ℕ) (kept : Kept) (h : IsKeptBefore next (λ _. relocation from to) rebuilt kept) where
  places : (from < length h.texts) × (to < length h.texts)
  places = h.in_place

  -- the block that is moved
  pub moved : (text : List ℕ) × (slice_get h.texts from ≡ Some text)
  moved = item_at h.texts from places.0

  pub from_moved : from < length kept.findings.items
  from_moved =
      let l = places.0 in
      let n = h.kept_of.findings.as_many in
      omega (arith, l, n)

  rest_long : to ≤ length (remove h.texts from)
  rest_long =
      let l = places.1 in
      let a = length-remove h.texts from places.0 in
      omega (arith, l, a)

  pub to_moved : to ≤ length (remove kept.findings.items from)
  to_moved =
      let l = places.1 in
      let n = h.kept_of.findings.as_many in
      let a = length-remove kept.findings.items from from_moved in
      omega (arith, l, n, a)

  next_moved : next ≡ insert (remove h.texts from) to moved.0
  next_moved = h.next_is ∙ moved_some h.texts from to moved.0 moved.1

  long_moved : length next ≡ length h.texts
  long_moved =
      let l = places.0 in
      let a = length-insert (remove h.texts from) to moved.0 rest_long in
      let b = length-remove h.texts from l in
      let c = ap (λ (xs : List (List ℕ)). length xs) next_moved in
      omega (arith, a, b, c, l)

  pub to_next : to < length next
  to_next =
      let l = places.1 in
      let n = long_moved in
      omega (arith, l, n)

  pub as_many_moved : (finding : Finding) → length (insert (remove kept.findings.items from) to finding) ≡ length next
  as_many_moved finding =
      let l = from_moved in
      let a = length-insert (remove kept.findings.items from) to finding to_moved in
      let b = length-remove kept.findings.items from l in
      let n = h.kept_of.findings.as_many in
      let m = long_moved in
      omega (arith, a, b, n, m, l)

  pub right_moved : UntouchedBlocksSayTheSame → (finding : Finding) → AreRightOff next rebuilt (insert (remove kept.findings.items from) to finding)
  right_moved law finding =
      let findings = kept.findings.items in
      let n = h.kept_of.findings.as_many in
      let m : length (remove findings from) ≡ length (remove h.texts from) =
      omega (arith, n, length-remove findings from from_moved, length-remove h.texts from places.0) in
      right_there next (λ _. relocation from to) rebuilt kept h law (insert (remove findings from) to finding)
      (λ at apart. remained (remove h.texts from) (insertion to []) (remove findings from) finding at rest_long m apart
      ∙ remained h.texts (removal from) findings finding (position_ahead to at) places.0 n (λ none. none))

  pub stands_moved : slice_get next to ≡ Some moved.0
  stands_moved = ap (λ (xs : List (List ℕ)). slice_get xs to) next_moved ∙ get-inserted_there (remove h.texts from) to moved.0 rest_long

  pub names_moved : name_count next (length next) ≤ kept.names + length (names_of (user_reading_of_text moved.0).items)
  names_moved =
      let a = few_inserted (remove h.texts from) to moved.0 rest_long in
      let b = few_removed h.texts from in
      let k = h.kept_of.names in
      let c = ap (λ (xs : List (List ℕ)). name_count xs (length xs)) next_moved in
      omega (arith, a, b, k, c)

-- ---- found out again, one after the other

contains_at : (n : ℕ) (ns : List ℕ) (m k : ℕ) → k < length (n ∷ ns) → get_or (n ∷ ns) k m ≡ m → (n ≡ m) ⊎ Contains ns m
contains_at n ns m zero l e = inl e
contains_at n ns m (suc k) l e = inr (k, omega (arith, l), e)

contains_tail : (n : ℕ) (ns : List ℕ) (m : ℕ) → Contains (n ∷ ns) m → (n ≡ m) ⊎ Contains ns m
contains_tail n ns m c = contains_at n ns m c.0 c.1 c.2

pub one_more_right : (texts : List (List ℕ)) (place : ℕ) (rest : List ℕ) (findings : List Finding) (finding : Finding) → place < length findings
    → AreRightOff texts (place ∷ rest) findings → ((text : List ℕ) → slice_get texts place ≡ Some text → IsRightOf texts text finding)
    → AreRightOff texts rest (set findings place finding)
one_more_right texts place rest findings finding l h is = λ at text found off stands f.
    elim (cases_Bool (nat_eq place at)) [
      | inl t ↦
          let here : place ≡ at = grind (arith, t) in
          let old = item_at findings place l in
          let same : finding ≡ found = same_Some finding found (sym (get-set_same findings place old.0 finding old.1) ∙ ap (slice_get (set findings place finding)) here ∙ f) in
          subst (λ (x : Finding). IsRightOf texts text x) same (is text (ap (slice_get texts) here ∙ stands))
      | inr n ↦
          let other : at ≡ place → ⊥ = λ e. apart place at n (sym e) in
          h at text found (λ c. elim (contains_tail place rest at c) [ inl e ↦ other (sym e) | inr later ↦ off later ]) stands
          (sym (get-set_other findings place at finding other) ∙ f)
    ] where
      apart : (a b : ℕ) → nat_eq a b ≡ false → a ≡ b → ⊥
      apart a b n e = grind (arith, n, e)

pub all_right : (texts : List (List ℕ)) (findings : List Finding) → length findings ≡ length texts → AreRightOff texts [] findings → AreRight texts findings
all_right texts findings n h = record {
  as_many = n;
  each = λ at text finding stands f. h at text finding (λ c. omega (arith, c.1)) stands f;
}

-- ---- what becomes of all blocks

pub zip_at : {X Y : Type 0} (R : X → Y → Type 0) (xs : List X) (ys : List Y) (at : ℕ) (x : X) (y : Y) → AllZip R xs ys → slice_get xs at ≡ Some x
    → slice_get ys at ≡ Some y → R x y
zip_at R [] ys at x y all e d = absurd (none-some x e)
zip_at R (a ∷ xs) [] at x y all e d = absurd all
zip_at R (a ∷ xs) (b ∷ ys) zero x y all e d = subst (λ z. R z y) (same_Some a x e) (subst (R a) (same_Some b y d) all.0)
zip_at R (a ∷ xs) (b ∷ ys) (suc at) x y all e d = zip_at R xs ys at x y all.1 e d

pub right_by : (texts : List (List ℕ)) (states : List EntryState) (findings : List Finding) → AreStates texts states → AreFindingsBy texts states findings
    → length findings ≡ length texts → AreRight texts findings
right_by texts states findings are by n = record {
  as_many = n;
  each = λ at text finding t f.
      let l = slice_get_within texts at text t in
      let m = by.0 in
      let state = item_at states at (omega (arith, l, m)) in
      record { state = state.0; becomes = zip_at (IsStateOf texts) texts states at text state.0 are t state.1; by = by.1 at text state.0 finding t state.1 f };
}

-- the states of blocks, one for each
record Chosen (texts : List (List ℕ)) (rest : List (List ℕ)) (findings : List Finding) : Type 0 where
  pub states : List EntryState
  pub are : AllZip (IsStateOf texts) rest states
  pub by : AreFindingsBy rest states findings

choose : (texts rest : List (List ℕ)) (findings : List Finding) → length findings ≡ length rest
    → ((at : ℕ) (text : List ℕ) (finding : Finding) → slice_get rest at ≡ Some text → slice_get findings at ≡ Some finding → IsRightOf texts text finding)
    → Chosen texts rest findings
choose texts [] findings n h = record { states = []; are = tt; by = (refl, λ at text state finding t s f. absurd (none-some text t)) }
choose texts (t ∷ rest) [] n h = absurd (omega (arith, n))
choose texts (t ∷ rest) (f ∷ findings) n h =
    let here = h 0 t f refl refl in
    let later = choose texts rest findings (omega (arith, n)) (λ at. h (suc at)) in
    record {
      states = here.state ∷ later.states;
      are = (here.becomes, later.are);
      by = (ap suc later.by.0, first here.state later.states (later.by.1) here.by);
    }
  where
    first : (state : EntryState) (states : List EntryState)
        → ((at : ℕ) (text : List ℕ) (other : EntryState) (finding : Finding) → slice_get rest at ≡ Some text → slice_get states at ≡ Some other
        → slice_get findings at ≡ Some finding → IsFindingBy text other finding)
        → IsFindingBy t state f
        → (at : ℕ) (text : List ℕ) (other : EntryState) (finding : Finding) → slice_get (t ∷ rest) at ≡ Some text → slice_get (state ∷ states) at ≡ Some other
        → slice_get (f ∷ findings) at ≡ Some finding → IsFindingBy text other finding
    first state states each by zero text other finding d s g =
        subst (λ z. IsFindingBy z other finding) (same_Some t text d)
        (subst (λ z. IsFindingBy t z finding) (same_Some state other s) (subst (λ (z : Finding). IsFindingBy t state z) (same_Some f finding g) by))
    first state states each by (suc at) text other finding d s g = each at text other finding d s g

pub states_of_right : (texts : List (List ℕ)) (findings : List Finding) → AreRight texts findings
    → (states : List EntryState) × AreStates texts states × AreFindingsBy texts states findings
states_of_right texts findings h = let c = choose texts texts findings h.as_many h.each in (c.states, c.are, c.by)

-- ---- whether a block resolves is known of its table

pub unresolved_there : (texts : List (List ℕ)) (text : List ℕ) {B : Type 0} (f : B → List Mention) (r : Option B) → is_some r ≡ false
    → HasTable contents (readings texts) (reading_of_text text) (option_map f r)
    → expansion_there (readings texts) (reading_of_text text) ≡ None
unresolved_there texts text f None e h = h
unresolved_there texts text f (Some b) e h = absurd (false≢true (sym e))
