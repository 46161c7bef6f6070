-- The entries of a table added one by one, but for cancels.
use Rattle.std.proofs.Common.{◌≡◌, ◌≢◌, ℕ, ◌+◌, ◌<◌, Bool, true, false, cond, List, length, get_or, take, map, Option, Some, None, refl, sym, ◌∙◌, ap, subst, arith}
use Rattle.std.specs.Option.{option_or}
use Rattle.std.proofs.lemmas.Bool.{false≢true}
use Rattle.std.proofs.lemmas.List.{get_or-take, take-map, length-map, length-take-le}
use Rattle.ti_caps.specs.Tables.{Capability, same_capability}
use Rattle.ti_caps.proofs.Same.{same_capability-true}
use Rattle.ti_layout.specs.declared.values.Value.{Value}
use Rattle.ti_layout.specs.Values.{Content, content_true, content_number, content_text, content_cancelled, Mention, IsSorted, contents, content_of, entries_of, rank_of, rank_at}
use Rattle.ti_layout.specs.Laws.{without_cancel}
use Rattle.ti_layout.proofs.FirstMentions.{front_more, or_nothing, or_assoc}
use Rattle.ti_layout.proofs.Searched.{rank_read}
use Rattle.ti_layout.proofs.SortedEntries.{contents_nowhere}
use Rattle.ti_layout.proofs.Walked.{item_read}
use Rattle.base_plan.specs.inside.Values.{is_cancel}

-- no entry before one is of its capability
taken : (es : List Mention) (i : ℕ) (x : Mention) → IsSorted es → i < length es → x ≡ get_or es i x → contents (take i es) x.0 ≡ None
taken es i x sorted within here = contents_nowhere (take i es) x.0 nowhere where
  nowhere : (j : ℕ) (e : Mention) → j < length (take i es) → (get_or (take i es) j e).0 ≢ x.0
  nowhere j e short same =
      let n = length-take-le i es (omega arith) in
      let before : j < i = omega arith in
      let rise = sorted.rises j i before within in
      let there = rank_read es j e (omega arith) in
      let own = rank_read es i x within in
      let equal : rank_of (get_or es j e).0 ≡ rank_of x.0 = ap rank_of (ap (λ (m : Mention). m.0) (sym (get_or-take i es j e before)) ∙ same) in
      let mine : rank_of (get_or es i x).0 ≡ rank_of x.0 = ap (λ (m : Mention). rank_of m.0) (sym here) in
      omega (arith, rise, there, own, equal, mine)

kept_one : (v : Content) → is_cancel v ≡ false → Some v ≡ without_cancel (Some v)
kept_one content_true e = refl
kept_one (content_number n) e = refl
kept_one (content_text t) e = refl
kept_one content_cancelled e = absurd (false≢true (sym e))

dropped_one : (v : Content) → is_cancel v ≡ true → None ≡ without_cancel (Some v)
dropped_one content_true e = absurd (false≢true e)
dropped_one (content_number n) e = absurd (false≢true e)
dropped_one (content_text t) e = absurd (false≢true e)
dropped_one content_cancelled e = refl

said_kept : (same : Bool) (p : Option Content) (v : Content) → is_cancel v ≡ false → (same ≡ true → p ≡ None)
    → option_or (without_cancel p) (cond same (Some v) None) ≡ without_cancel (option_or p (cond same (Some v) None))
said_kept false p v e absent = or_nothing (without_cancel p) ∙ ap without_cancel (sym (or_nothing p))
said_kept true p v e absent = rw (absent refl) (kept_one v e)

said_dropped : (same : Bool) (p : Option Content) (v : Content) → is_cancel v ≡ true → (same ≡ true → p ≡ None)
    → without_cancel p ≡ without_cancel (option_or p (cond same (Some v) None))
said_dropped false p v e absent = ap without_cancel (sym (or_nothing p))
said_dropped true p v e absent = rw (absent refl) (dropped_one v e)

module _ (xs : List (Capability × Value)) (i : ℕ) (x : Capability × Value) (sorted : IsSorted (entries_of xs)) (l : i < length xs) (here : x ≡ get_or xs i x)
    (c : Capability) where
  absent : same_capability x.0 c ≡ true → contents (entries_of (take i xs)) c ≡ None
  absent same =
      let f : Capability × Value → Mention = λ y. (y.0, content_of y.1) in
      let long : i < length (entries_of xs) = rw (length-map xs f) l in
      let none = taken (entries_of xs) i ((x.0, content_of x.1)) sorted long (sym (item_read xs i x l here)) in
      rw (← same_capability-true x.0 c same, ← take-map f i xs) none

  pub entry_kept : (m : Option Content) (mid new : Option Content) → is_cancel (content_of x.1) ≡ false
      → mid ≡ option_or m (without_cancel (contents (entries_of (take i xs)) c)) → new ≡ option_or mid (cond (same_capability x.0 c) (Some (content_of x.1)) None)
      → new ≡ option_or m (without_cancel (contents (entries_of (take (i + 1) xs)) c))
  entry_kept m mid new e old added =
      added ∙ ap (λ o. option_or o (cond (same_capability x.0 c) (Some (content_of x.1)) None)) old
      ∙ or_assoc m (without_cancel (contents (entries_of (take i xs)) c)) (cond (same_capability x.0 c) (Some (content_of x.1)) None)
      ∙ ap (λ o. option_or m o)
      (said_kept (same_capability x.0 c) (contents (entries_of (take i xs)) c) (content_of x.1) e absent ∙ ap without_cancel (sym (front_more xs i x l (sym here) c)))

  pub entry_dropped : (m : Option Content) (mid : Option Content) → is_cancel (content_of x.1) ≡ true
      → mid ≡ option_or m (without_cancel (contents (entries_of (take i xs)) c))
      → mid ≡ option_or m (without_cancel (contents (entries_of (take (i + 1) xs)) c))
  entry_dropped m mid e old =
      old
      ∙ ap (λ o. option_or m o)
      (said_dropped (same_capability x.0 c) (contents (entries_of (take i xs)) c) (content_of x.1) e absent
      ∙ ap without_cancel (sym (front_more xs i x l (sym here) c)))
