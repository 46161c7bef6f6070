-- What a relative source and the others say of a user-defined name together is what the entry says.
use Rattle.std.proofs.Common.{◌≡◌, ◌≢◌, ℕ, Bool, true, false, cond, ◌||◌, List, [], ◌∷◌, ◌++◌, map, Option, Some, None, refl, ap, sym, ◌∙◌, subst, append_assoc}
use Rattle.std.specs.List.{All, AllByRecursion, flat_map, list_any}
use Rattle.std.specs.Option.{option_or}
use Rattle.std.specs.Str.{bytes_eq}
use Rattle.std.specs.Ordering.{nat_cmp, is_eq}
use Rattle.std.specs.Cmp.Lexicographic.{slice_cmp, bytes_decides}
use Rattle.std.specs.declared.cmp.Ordering.{Ordering}
use Rattle.std.specs.declared.cmp.Ordering.TheVariants.{Less, Equal, Greater}
use Rattle.std.proofs.lemmas.Bool.{eqb-true, or_right}
use Rattle.std.proofs.lemmas.List.Elements.{recursion_from_All}
use Rattle.std.proofs.lemmas.Map.Text.{is_eq-slice_cmp}
use Rattle.ti_caps.specs.declared.capability.Kind.{Kind}
use Rattle.ti_caps.specs.declared.capability.Kind.TheVariants.{Flag, Number, Text}
use Rattle.ti_layout.specs.Values.{Content, content_true, content_number, content_text, content_cancelled}
use Rattle.ti_layout.specs.Laws.{without_cancel}
use Rattle.ti_list.specs.RelativeSource.{difference, first_name, same_content}
use Rattle.user_items.specs.Verdicts.{UserSaid, imports}
use Rattle.user_extension.specs.Reading.{ReadRow, said}
use Rattle.user_listing.specs.Entries.{Extended}
use Rattle.user_listing.specs.Names.{is_of_kind, names_among, names_of_both, names_of_kind, with_names_of}
use Rattle.user_listing.specs.RelativeSource.{first_said, user_difference}
use Rattle.user_listing.proofs.Rows.{both-less, both-equal, both-greater}
use Rattle.user_relisting.specs.ReadingBack.{RelativesSayTheEntry, differing_said, given, relative_said, said_if}

-- ---- equal contents

same-true : (x y : Content) → same_content x y ≡ true → x ≡ y
same-true content_true content_true e = refl
same-true content_true (content_number n) e = cc
same-true content_true (content_text u) e = cc
same-true content_true content_cancelled e = cc
same-true (content_number m) content_true e = cc
same-true (content_number m) (content_number n) e = ap content_number (eqb-true m n e)
same-true (content_number m) (content_text u) e = cc
same-true (content_number m) content_cancelled e = cc
same-true (content_text t) content_true e = cc
same-true (content_text t) (content_number n) e = cc
same-true (content_text t) (content_text u) e = ap content_text ((bytes_decides t u).0 e)
same-true (content_text t) content_cancelled e = cc
same-true content_cancelled content_true e = cc
same-true content_cancelled (content_number n) e = cc
same-true content_cancelled (content_text u) e = cc
same-true content_cancelled content_cancelled e = refl

by-same : (h x : Content) (b : Bool) → same_content h x ≡ b → without_cancel (option_or (cond b None (Some h)) (Some x)) ≡ without_cancel (Some h)
by-same h x true e = ap (λ y. without_cancel (Some y)) (sym (same-true h x e))
by-same h x false e = refl

pub restores : (own theirs : Option Content) → without_cancel (option_or (difference own theirs) theirs) ≡ without_cancel own
restores None None = refl
restores None (Some x) = refl
restores (Some h) None = refl
restores (Some h) (Some x) = by-same h x (same_content h x) refl

-- ---- which names are among the names of a kind

abbrev is_in : List (List ℕ) → List ℕ → Bool
is_in names n = list_any (λ (m : List ℕ). bytes_eq m n) names

either-true : (b c d : Bool) → (b || c) ≡ true → (c ≡ true → d ≡ true) → (b || d) ≡ true
either-true true c d e more = refl
either-true false c d e more = more e

equal-names : (x y : List ℕ) → slice_cmp nat_cmp x y ≡ Equal → x ≡ y
equal-names x y e = (bytes_decides x y).0 (sym (is_eq-slice_cmp x y) ∙ ap is_eq e)

left-by : (n x v : List ℕ) (xs vs : List (List ℕ)) (o : Ordering) → slice_cmp nat_cmp x v ≡ o → is_in (x ∷ xs) n ≡ true
    → (is_in xs n ≡ true → is_in (names_of_both xs (v ∷ vs)) n ≡ true) → (is_in xs n ≡ true → is_in (names_of_both xs vs) n ≡ true)
    → is_in (names_of_both (x ∷ xs) vs) n ≡ true
    → is_in (names_of_both (x ∷ xs) (v ∷ vs)) n ≡ true
left-by n x v xs vs Less o e less equal greater =
    ap (λ (names : List (List ℕ)). is_in names n) (both-less x v xs vs o) ∙ either-true (bytes_eq x n) (is_in xs n) _ e less
left-by n x v xs vs Equal o e less equal greater =
    ap (λ (names : List (List ℕ)). is_in names n) (both-equal x v xs vs o) ∙ either-true (bytes_eq x n) (is_in xs n) _ e equal
left-by n x v xs vs Greater o e less equal greater =
    ap (λ (names : List (List ℕ)). is_in names n) (both-greater x v xs vs o) ∙ or_right (bytes_eq v n) (is_in (names_of_both (x ∷ xs) vs) n) greater

left-at : (n x : List ℕ) (xs : List (List ℕ)) → is_in (x ∷ xs) n ≡ true → ((ys : List (List ℕ)) → is_in xs n ≡ true → is_in (names_of_both xs ys) n ≡ true)
    → (vs : List (List ℕ)) → is_in (names_of_both (x ∷ xs) vs) n ≡ true
left-at n x xs e on [] = e
left-at n x xs e on (v ∷ vs) = left-by n x v xs vs (slice_cmp nat_cmp x v) refl e (on (v ∷ vs)) (on vs) (left-at n x xs e on vs)

both-left-in : (n : List ℕ) (xs ys : List (List ℕ)) → is_in xs n ≡ true → is_in (names_of_both xs ys) n ≡ true
both-left-in n [] ys e = cc
both-left-in n (x ∷ xs) ys e = left-at n x xs e (both-left-in n xs) ys

right-by : (n x v : List ℕ) (xs vs : List (List ℕ)) (o : Ordering) → slice_cmp nat_cmp x v ≡ o → is_in (v ∷ vs) n ≡ true
    → is_in (names_of_both xs (v ∷ vs)) n ≡ true → (is_in vs n ≡ true → is_in (names_of_both xs vs) n ≡ true)
    → (is_in vs n ≡ true → is_in (names_of_both (x ∷ xs) vs) n ≡ true)
    → is_in (names_of_both (x ∷ xs) (v ∷ vs)) n ≡ true
right-by n x v xs vs Less o e less equal greater =
    ap (λ (names : List (List ℕ)). is_in names n) (both-less x v xs vs o) ∙ or_right (bytes_eq x n) (is_in (names_of_both xs (v ∷ vs)) n) less
right-by n x v xs vs Equal o e less equal greater =
    let same : is_in (x ∷ vs) n ≡ true = ap (λ (m : List ℕ). is_in (m ∷ vs) n) (equal-names x v o) ∙ e in
    ap (λ (names : List (List ℕ)). is_in names n) (both-equal x v xs vs o) ∙ either-true (bytes_eq x n) (is_in vs n) _ same equal
right-by n x v xs vs Greater o e less equal greater =
    ap (λ (names : List (List ℕ)). is_in names n) (both-greater x v xs vs o) ∙ either-true (bytes_eq v n) (is_in vs n) _ e greater

right-at : (n x : List ℕ) (xs : List (List ℕ)) → ((ys : List (List ℕ)) → is_in ys n ≡ true → is_in (names_of_both xs ys) n ≡ true)
    → (vs : List (List ℕ)) → is_in vs n ≡ true → is_in (names_of_both (x ∷ xs) vs) n ≡ true
right-at n x xs on [] e = cc
right-at n x xs on (v ∷ vs) e = right-by n x v xs vs (slice_cmp nat_cmp x v) refl e (on (v ∷ vs) e) (on vs) (right-at n x xs on vs)

both-right-in : (n : List ℕ) (xs ys : List (List ℕ)) → is_in ys n ≡ true → is_in (names_of_both xs ys) n ≡ true
both-right-in n [] ys e = e
both-right-in n (x ∷ xs) ys e = right-at n x xs (both-right-in n xs) ys e

-- a name whose value is of the kind is among the names of the kind
said-more : (b : Bool) (m n : List ℕ) (names : List (List ℕ)) → is_in names n ≡ true → is_in (cond b (m ∷ []) [] ++ names) n ≡ true
said-more true m n names later = or_right (bytes_eq m n) (is_in names n) later
said-more false m n names later = later

said-at : (kind : Kind) (row : ReadRow) (rows : List ReadRow) (n : List ℕ) (b : Bool) (o : Option Content) → bytes_eq row.0 n ≡ b → row.1 ≡ o
    → is_of_kind kind (cond b (option_or o (said rows n)) (said rows n)) ≡ true
    → (is_of_kind kind (said rows n) ≡ true → is_in (names_of_kind kind rows) n ≡ true)
    → is_in (names_of_kind kind (row ∷ rows)) n ≡ true
said-at kind row rows n false o other is e on = said-more (is_of_kind kind row.1) row.0 n (names_of_kind kind rows) (on e)
said-at kind row rows n true None same is e on = said-more (is_of_kind kind row.1) row.0 n (names_of_kind kind rows) (on e)
said-at kind row rows n true (Some x) same is e on = rw (is, e, same) refl

said-in : (kind : Kind) (rows : List ReadRow) (n : List ℕ) → is_of_kind kind (said rows n) ≡ true → is_in (names_of_kind kind rows) n ≡ true
said-in Flag [] n e = cc
said-in Number [] n e = cc
said-in Text [] n e = cc
said-in kind (row ∷ rows) n e = said-at kind row rows n (bytes_eq row.0 n) row.1 refl refl e (said-in kind rows n)

with-in : (kind : Kind) (names : List (List ℕ)) (others : List Extended) (n : List ℕ) → is_in names n ≡ true → is_in (with_names_of kind names others) n ≡ true
with-in kind names [] n e = e
with-in kind names (other ∷ others) n e =
    with-in kind (names_of_both names (names_of_kind kind other.rows)) others n (both-left-in n names (names_of_kind kind other.rows) e)

others-at : (kind : Kind) (names : List (List ℕ)) (other : Extended) (others : List Extended) (n : List ℕ) (o : Option Content) → said other.rows n ≡ o
    → is_of_kind kind (option_or o (first_said others n)) ≡ true
    → (is_of_kind kind (first_said others n) ≡ true → is_in (with_names_of kind (names_of_both names (names_of_kind kind other.rows)) others) n ≡ true)
    → is_in (with_names_of kind (names_of_both names (names_of_kind kind other.rows)) others) n ≡ true
others-at kind names other others n None is e on = on e
others-at kind names other others n (Some x) is e on =
    with-in kind (names_of_both names (names_of_kind kind other.rows)) others n
    (both-right-in n names (names_of_kind kind other.rows) (said-in kind other.rows n (ap (is_of_kind kind) is ∙ e)))

others-in : (kind : Kind) (names : List (List ℕ)) (others : List Extended) (n : List ℕ) → is_of_kind kind (first_said others n) ≡ true
    → is_in (with_names_of kind names others) n ≡ true
others-in Flag names [] n e = cc
others-in Number names [] n e = cc
others-in Text names [] n e = cc
others-in kind names (other ∷ others) n e =
    others-at kind names other others n (said other.rows n) refl e (others-in kind (names_of_both names (names_of_kind kind other.rows)) others n)

among-at : (kind : Kind) (entry : Extended) (others : List Extended) (n : List ℕ) (o : Option Content) → said entry.rows n ≡ o
    → is_of_kind kind (option_or o (first_said others n)) ≡ true
    → is_in (names_among kind entry others) n ≡ true
among-at kind entry others n None is e = others-in kind (names_of_kind kind entry.rows) others n e
among-at kind entry others n (Some x) is e = with-in kind (names_of_kind kind entry.rows) others n (said-in kind entry.rows n (ap (is_of_kind kind) is ∙ e))

among-in : (kind : Kind) (entry : Extended) (others : List Extended) (n : List ℕ) → is_of_kind kind (option_or (said entry.rows n) (first_said others n)) ≡ true
    → is_in (names_among kind entry others) n ≡ true
among-in kind entry others n e = among-at kind entry others n (said entry.rows n) refl e

-- ---- what is given to a name

abbrev if_in : Bool → Option Content → Option Content
if_in b o = cond b o None

given-one : (m n : List ℕ) (o now : Option Content) (later : List UserSaid) (b : Bool) (rest : Option Content) → o ≡ now → bytes_eq m n ≡ true
    → given later n ≡ option_or (if_in b now) rest
    → given (said_if m o ++ later) n ≡ option_or now rest
given-one m n None now later true rest is same e = e
given-one m n None now later false rest is same e = e ∙ ap (λ o. option_or o rest) is
given-one m n (Some x) now later b rest is same e = rw same (ap (λ o. option_or o rest) is)

given-other : (m n : List ℕ) (o : Option Content) (later : List UserSaid) → bytes_eq m n ≡ false → given (said_if m o ++ later) n ≡ given later n
given-other m n None later other = refl
given-other m n (Some x) later other = rw other refl

given-at : (say : List ℕ → Option Content) (m n : List ℕ) (ms : List (List ℕ)) (later : List UserSaid) (rest : Option Content) (b : Bool) → bytes_eq m n ≡ b
    → given later n ≡ option_or (if_in (is_in ms n) (say n)) rest → given (said_if m (say m) ++ later) n ≡ option_or (if_in (is_in (m ∷ ms) n) (say n)) rest
given-at say m n ms later rest true same e =
    given-one m n (say m) (say n) later (is_in ms n) rest (ap say ((bytes_decides m n).0 same)) same e
    ∙ ap (λ b. option_or (if_in (b || is_in ms n) (say n)) rest) (sym same)
given-at say m n ms later rest false other e = given-other m n (say m) later other ∙ e ∙ ap (λ b. option_or (if_in (b || is_in ms n) (say n)) rest) (sym other)

given-items : (say : List ℕ → Option Content) (names : List (List ℕ)) (n : List ℕ) (more : List UserSaid)
    → given (flat_map (λ (name : List ℕ). said_if name (say name)) names ++ more) n ≡ option_or (if_in (is_in names n) (say n)) (given more n)
given-items say [] n more = refl
given-items say (m ∷ ms) n more =
    ap (λ ss. given ss n) (append_assoc (said_if m (say m)) (flat_map (λ (name : List ℕ). said_if name (say name)) ms) more)
    ∙ given-at say m n ms (flat_map (λ (name : List ℕ). said_if name (say name)) ms ++ more) (given more n) (bytes_eq m n) refl (given-items say ms n more)

given-uses : (others : List Extended) (n : List ℕ) → given (map (λ (other : Extended). imports (first_name other.entry.names)) others) n ≡ None
given-uses [] n = refl
given-uses (other ∷ others) n = given-uses others n

-- ---- the whole

or-none : (o : Option Content) → option_or o None ≡ o
or-none None = refl
or-none (Some x) = refl

not-of-kind : (b k : Bool) (o : Option Content) → k ≡ false → if_in b (cond k o None) ≡ None
not-of-kind true k o e = rw e refl
not-of-kind false k o e = refl

of-kind : (b k : Bool) (o : Option Content) → k ≡ true → b ≡ true → if_in b (cond k o None) ≡ o
of-kind b k o e f = rw (e, f) refl

first-of-three : (a b c o : Option Content) → a ≡ o → b ≡ None → c ≡ None → option_or a (option_or b (option_or c None)) ≡ o
first-of-three a b c o e f g = rw (e, f, g) (or-none o)

second-of-three : (a b c o : Option Content) → a ≡ None → b ≡ o → c ≡ None → option_or a (option_or b (option_or c None)) ≡ o
second-of-three a b c o e f g = rw (e, f, g) (or-none o)

third-of-three : (a b c o : Option Content) → a ≡ None → b ≡ None → c ≡ o → option_or a (option_or b (option_or c None)) ≡ o
third-of-three a b c o e f g = rw (e, f, g) (or-none o)

none-said : (own theirs : Option Content) → option_or own theirs ≡ None → without_cancel theirs ≡ without_cancel own
none-said None theirs is = ap without_cancel is
none-said (Some x) theirs is = cc

cancel-said : (own theirs : Option Content) → own ≢ Some content_cancelled → option_or own theirs ≡ Some content_cancelled
    → without_cancel theirs ≡ without_cancel own
cancel-said None theirs plain is = ap without_cancel is
cancel-said (Some x) theirs plain is = absurd (plain is)

-- of the three kinds, the one of the value gives the difference
kinds-give : (own theirs : Option Content) (f n t : Bool) → own ≢ Some content_cancelled
    → (is_of_kind Flag (option_or own theirs) ≡ true → f ≡ true) → (is_of_kind Number (option_or own theirs) ≡ true → n ≡ true)
    → (is_of_kind Text (option_or own theirs) ≡ true → t ≡ true)
    → without_cancel (option_or (option_or (if_in f (user_difference Flag own theirs))
    (option_or (if_in n (user_difference Number own theirs)) (option_or (if_in t
    (user_difference Text own theirs)) None))) theirs)
    ≡ without_cancel own
kinds-give own theirs f n t plain of_flag of_number of_text = by-value (option_or own theirs) refl
  where
    by-value : (d : Option Content) → option_or own theirs ≡ d
        → without_cancel (option_or (option_or (if_in f (user_difference Flag own theirs)) (option_or (if_in n (user_difference Number own theirs)) (option_or
        (if_in t (user_difference Text own theirs)) None))) theirs)
        ≡ without_cancel own
    by-value None is =
        ap (λ o. without_cancel (option_or o theirs))
        (first-of-three _ _ _ None (not-of-kind f _ _ (ap (is_of_kind Flag) is)) (not-of-kind n _ _ (ap (is_of_kind Number) is))
        (not-of-kind t _ _ (ap (is_of_kind Text) is)))
        ∙ none-said own theirs is
    by-value (Some content_true) is =
        ap (λ o. without_cancel (option_or o theirs))
        (first-of-three _ _ _ (difference own theirs) (of-kind f _ _ (ap (is_of_kind Flag) is) (of_flag (ap (is_of_kind Flag) is))) (not-of-kind n _ _ (ap
        (is_of_kind Number) is)) (not-of-kind t _ _ (ap (is_of_kind Text) is)))
        ∙ restores own theirs
    by-value (Some (content_number m)) is =
        ap (λ o. without_cancel (option_or o theirs))
        (second-of-three _ _ _ (difference own theirs) (not-of-kind f _ _ (ap (is_of_kind Flag) is)) (of-kind n _ _ (ap (is_of_kind Number) is) (of_number (ap
        (is_of_kind Number) is))) (not-of-kind t _ _ (ap (is_of_kind Text) is)))
        ∙ restores own theirs
    by-value (Some (content_text u)) is =
        ap (λ o. without_cancel (option_or o theirs))
        (third-of-three _ _ _ (difference own theirs) (not-of-kind f _ _ (ap (is_of_kind Flag) is)) (not-of-kind n _ _ (ap (is_of_kind Number) is))
        (of-kind t _ _
        (ap (is_of_kind Text) is) (of_text (ap (is_of_kind Text) is))))
        ∙ restores own theirs
    by-value (Some content_cancelled) is =
        ap (λ o. without_cancel (option_or o theirs))
        (first-of-three _ _ _ None (not-of-kind f _ _ (ap (is_of_kind Flag) is)) (not-of-kind n _ _ (ap (is_of_kind Number) is))
        (not-of-kind t _ _ (ap (is_of_kind Text) is)))
        ∙ cancel-said own theirs plain is

-- ---- no value is a cancel

plain-either : (b : Bool) (o p : Option Content) → o ≢ Some content_cancelled → p ≢ Some content_cancelled → cond b o p ≢ Some content_cancelled
plain-either true o p one other = one
plain-either false o p one other = other

plain-or : (o p : Option Content) → o ≢ Some content_cancelled → p ≢ Some content_cancelled → option_or o p ≢ Some content_cancelled
plain-or None p one other = other
plain-or (Some x) p one other = one

said-plain : (rows : List ReadRow) (n : List ℕ) → AllByRecursion (λ (row : ReadRow). row.1 ≢ Some content_cancelled) rows → said rows n ≢ Some content_cancelled
said-plain [] n all = λ e. cc
said-plain (row ∷ rows) n all =
    let later = said-plain rows n all.1 in
    plain-either (bytes_eq row.0 n) (option_or row.1 (said rows n)) (said rows n) (plain-or row.1 (said rows n) all.0 later) later

plain-same : (o : Option Content) → o ≢ Some content_cancelled → without_cancel o ≡ o
plain-same None plain = refl
plain-same (Some content_true) plain = refl
plain-same (Some (content_number m)) plain = refl
plain-same (Some (content_text u)) plain = refl
plain-same (Some content_cancelled) plain = absurd (plain refl)

pub said-same : (rows : List ReadRow) (n : List ℕ) → AllByRecursion (λ (row : ReadRow). row.1 ≢ Some content_cancelled) rows
    → without_cancel (said rows n) ≡ said rows n
said-same rows n all = plain-same (said rows n) (said-plain rows n all)

-- what the items of the three kinds give a name
by-kinds : (entry : Extended) (others : List Extended) (name : List ℕ)
    → given (relative_said entry others) name
    ≡ option_or (if_in (is_in (names_among Flag entry others) name) (user_difference Flag (said entry.rows name) (first_said others name)))
    (option_or (if_in (is_in (names_among Number entry others) name) (user_difference Number (said entry.rows name) (first_said others name)))
    (option_or (if_in (is_in (names_among Text entry others) name) (user_difference Text (said entry.rows name) (first_said others name))) None))
by-kinds entry others name =
    let say : Kind → List ℕ → Option Content = λ kind n. user_difference kind (said entry.rows n) (first_said others n) in
    let uses = map (λ (other : Extended). imports (first_name other.entry.names)) others in
    let in_kind : Kind → Bool = λ kind. is_in (names_among kind entry others) name in
    given-items (say Flag) (names_among Flag entry others) name (differing_said Number entry others ++ (differing_said Text entry others ++ uses))
    ∙ ap (option_or (if_in (in_kind Flag) (say Flag name)))
    (given-items (say Number) (names_among Number entry others) name (differing_said Text entry others ++ uses)
    ∙ ap (option_or (if_in (in_kind Number) (say Number name)))
    (given-items (say Text) (names_among Text entry others) name uses ∙ ap (option_or (if_in (in_kind Text) (say Text name))) (given-uses others name)))

pub relatives_say : RelativesSayTheEntry
relatives_say entry others name all =
    let own = said entry.rows name in
    let theirs = first_said others name in
    let plain = said-plain entry.rows name (recursion_from_All (λ (row : ReadRow). row.1 ≢ Some content_cancelled) entry.rows all) in
    let in_kind : Kind → Bool = λ kind. is_in (names_among kind entry others) name in
    ap (λ o. without_cancel (option_or o theirs)) (by-kinds entry others name)
    ∙ kinds-give own theirs (in_kind Flag) (in_kind Number) (in_kind Text) plain (among-in Flag entry others name) (among-in Number entry others name)
    (among-in Text entry others name)
    ∙ plain-same own plain

-- ---- listings

-- what is said of a name where nothing was is no cancel
kind-plain : (b : Bool) (kind : Kind) (own : Option Content) → own ≢ Some content_cancelled → if_in b (user_difference kind own None) ≢ Some content_cancelled
kind-plain b kind own plain =
    let none : None ≢ Some content_cancelled = λ e. cc in
    let apart : difference own None ≢ Some content_cancelled = subst (λ (o : Option Content). o ≢ Some content_cancelled) (sym (apart-same own)) plain in
    plain-either b (user_difference kind own None) None (plain-either (is_of_kind kind (option_or own None)) (difference own None) None apart none) none
  where
    apart-same : (own : Option Content) → difference own None ≡ own
    apart-same None = refl
    apart-same (Some x) = refl

-- what the listing of an entry gives a name is what the entry has
pub listing-gives : (entry : Extended) (name : List ℕ) → All (λ (row : ReadRow). row.1 ≢ Some content_cancelled) entry.rows
    → given (relative_said entry []) name ≡ said entry.rows name
listing-gives entry name all =
    let own = said entry.rows name in
    let none : None ≢ Some content_cancelled = λ e. cc in
    let plain = said-plain entry.rows name (recursion_from_All (λ (row : ReadRow). row.1 ≢ Some content_cancelled) entry.rows all) in
    let part : (kind : Kind) → if_in (is_in (names_among kind entry []) name) (user_difference kind own None) ≢ Some content_cancelled =
    λ kind. kind-plain (is_in (names_among kind entry []) name) kind own plain in
    let given_plain : given (relative_said entry []) name ≢ Some content_cancelled =
    subst (λ (o : Option Content). o ≢ Some content_cancelled) (sym (by-kinds entry [] name))
    (plain-or _ _ (part Flag) (plain-or _ _ (part Number) (plain-or _ None (part Text) none))) in
    sym (plain-same (given (relative_said entry []) name) given_plain) ∙ sym (ap without_cancel (or-none (given (relative_said entry []) name)))
    ∙ relatives_say entry [] name all
