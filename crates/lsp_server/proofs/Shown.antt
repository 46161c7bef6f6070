-- What is shown for a URI after a turn is the document that is open under it, unless its faults are
-- due, if it was so before.
use Rattle.std.proofs.Common.{ℕ, ◌≡◌, List, [], ◌∷◌, ◌++◌, Bool, true, false, cond, not, Option, None, Some, map, option_map, refl, sym, ap, subst, append-nil, ◌∙◌}
use Rattle.std.specs.Option.{option_to_list}
use Rattle.std.specs.Str.{bytes_eq}
use Rattle.std.proofs.lemmas.Slice.Eq.{bytes_eq-Decides}
use Rattle.serde_json.specs.Data.{Data}
use Rattle.lsp_messages.specs.Messages.{Asked, initialize, shutdown, about, search, unreadable, unknown, Meaning, message_of, Query, request, notification}
use Rattle.lsp_messages.specs.Messages.{response, faulty, Told, exited, opened, changed, closed, unreadable, nothing}
use Rattle.lsp_messages.specs.declared.clients.Client.{Client}
use Rattle.lsp_server.specs.Runs.{AllIsShownAtLast, AnswersAreOfShownTexts, IsShown, answers_to, last_shown, shown_by, state_after, OpenDocumentsAreShown}
use Rattle.lsp_server.specs.Serving.{AllIsServedAtLast, ServedDocumentsAreShown, Turn, replies_to, served_state}
use Rattle.lsp_server.specs.Steps.{Answer, shown, cleared, Open, Places, State, all_published, answered_of, at_start, changed_by, current_of, opened_for}
use Rattle.lsp_server.specs.Steps.{open_at, outdated, due_if, published, published_if, publishes_first, requested, requested_fresh, requested_running, settled, shown_due}
use Rattle.lsp_server.specs.Steps.{shown_if_due, step, can_apply, taken, taken_value, told, told_in, with_change, with_document, with_edits, without}
use Rattle.lsp_server.specs.declared.phase.Phase.{Phase}
use Rattle.lsp_server.specs.declared.phase.Phase.TheVariants.{Fresh, Running, Finished, Ended}

-- the same, after an answer that may not be there
abbrev pub shown_after : List ℕ → Option Open → Option Answer → Option Open
shown_after uri before None = before
shown_after uri before (Some answer) = shown_by uri before answer

-- ---- tests of URIs

same_uri : (a b : List ℕ) → bytes_eq a b ≡ true → a ≡ b
same_uri a b = (bytes_eq-Decides a b).0

is_same : (a b : List ℕ) → a ≡ b → bytes_eq a b ≡ true
is_same a b = (bytes_eq-Decides a b).1

-- two URIs that are the same are the same as any other or not
tests_agree : (a b uri : List ℕ) → bytes_eq a b ≡ true → bytes_eq a uri ≡ bytes_eq b uri
tests_agree a b uri e = ap (λ (x : List ℕ). bytes_eq x uri) (same_uri a b e)

clash : (b : Bool) → b ≡ true → b ≡ false → ⊥
clash b p q = cc

-- of two that differ one at most is the other
one_at_most : (a b uri : List ℕ) → bytes_eq a b ≡ false → bytes_eq a uri ≡ true → bytes_eq b uri ≡ true → ⊥
one_at_most a b uri differ p q = clash (bytes_eq a b) (is_same a b (same_uri a uri p ∙ sym (same_uri b uri q))) differ

-- ---- a document that is put in

found_first : (q r : Bool) (a b x : Option Open) → q ≡ r → cond r a x ≡ cond r a (cond q b x)
found_first true true a b x e = refl
found_first false false a b x e = refl
found_first true false a b x e = absurd (clash true refl e)
found_first false true a b x e = refl

found_later : (q r : Bool) (a b x y : Option Open) → (q ≡ true → r ≡ true → ⊥) → y ≡ cond r a x → cond q b y ≡ cond r a (cond q b x)
found_later true true a b x y differ e = absurd (differ refl refl)
found_later true false a b x y differ e = refl
found_later false r a b x y differ e = e

put_in : (uri : List ℕ) (new d : Open) (ds : List Open) (p : Bool) → bytes_eq d.uri new.uri ≡ p
    → open_at uri (with_document new ds) ≡ cond (bytes_eq new.uri uri) (Some new) (open_at uri ds)
    → open_at uri (cond p (new ∷ ds) (d ∷ with_document new ds)) ≡ cond (bytes_eq new.uri uri) (Some new) (cond (bytes_eq d.uri uri) (Some d) (open_at uri ds))
put_in uri new d ds true e h = found_first (bytes_eq d.uri uri) (bytes_eq new.uri uri) (Some new) (Some d) (open_at uri ds) (tests_agree d.uri new.uri uri e)
put_in uri new d ds false e h = found_later (bytes_eq d.uri uri) (bytes_eq new.uri uri) (Some new) (Some d) (open_at uri ds)
    (open_at uri (with_document new ds)) (one_at_most d.uri new.uri uri e) h

open_at-with_document : (uri : List ℕ) (new : Open) (documents : List Open) → open_at uri (with_document new documents)
    ≡ cond (bytes_eq new.uri uri) (Some new) (open_at uri documents)
open_at-with_document uri new [] = refl
open_at-with_document uri new (d ∷ ds) = put_in uri new d ds (bytes_eq d.uri new.uri) refl (open_at-with_document uri new ds)

-- ---- a document that is changed

found_in : (uri : List ℕ) (x : Open) (ds : List Open) (d : Open) (p : Bool) → bytes_eq x.uri uri ≡ p → (open_at uri ds ≡ Some d → bytes_eq d.uri uri ≡ true)
    → cond p (Some x) (open_at uri ds) ≡ Some d → bytes_eq d.uri uri ≡ true
found_in uri x ds d true e h f = let same : x ≡ d = cc in subst (λ (y : Open). bytes_eq y.uri uri ≡ true) same e
found_in uri x ds d false e h f = h f

-- the document that is found has the URI
found_has : (uri : List ℕ) (ds : List Open) (d : Open) → open_at uri ds ≡ Some d → bytes_eq d.uri uri ≡ true
found_has uri [] d e = cc
found_has uri (x ∷ ds) d e = found_in uri x ds d (bytes_eq x.uri uri) refl (found_has uri ds d) e

change_none : (change : Open → Open) (r : Bool) → None ≡ cond r (option_map change None) None
change_none change true = refl
change_none change false = refl

change_first : (change : Open → Open) (s q r : Bool) (d : Open) (rest : Option Open) → s ≡ q → q ≡ r
    → cond s (Some (change d)) rest ≡ cond r (option_map change (cond q (Some d) rest)) (cond q (Some d) rest)
change_first change true true true d rest e f = refl
change_first change false false false d rest e f = refl
change_first change true false r d rest e f = absurd (clash true refl e)
change_first change false true r d rest e f = absurd (clash false e refl)
change_first change true true false d rest e f = absurd (clash true refl f)
change_first change false false true d rest e f = absurd (clash false f refl)

change_later : (change : Open → Open) (q r : Bool) (d : Open) (x y : Option Open) → (q ≡ true → r ≡ true → ⊥)
    → y ≡ cond r (option_map change x) x → cond q (Some d) y ≡ cond r (option_map change (cond q (Some d) x)) (cond q (Some d) x)
change_later change true true d x y differ e = absurd (differ refl refl)
change_later change true false d x y differ e = refl
change_later change false r d x y differ e = e

module _ (uri other : List ℕ) (change : Open → Open) (keeps : (d : Open) → (change d).uri ≡ d.uri) where
  change_in : (d : Open) (ds : List Open) (p : Bool) → bytes_eq d.uri other ≡ p
      → open_at uri (with_change other change ds) ≡ cond (bytes_eq other uri) (option_map change (open_at uri ds)) (open_at uri ds)
      → open_at uri (cond p (change d ∷ ds) (d ∷ with_change other change ds))
      ≡ cond (bytes_eq other uri) (option_map change (cond (bytes_eq d.uri uri) (Some d) (open_at uri ds))) (cond (bytes_eq d.uri uri) (Some d) (open_at uri ds))
  change_in d ds true e h =
      change_first change (bytes_eq (change d).uri uri) (bytes_eq d.uri uri) (bytes_eq other uri) d (open_at uri ds)
      (ap (λ (u : List ℕ). bytes_eq u uri) (keeps d)) (tests_agree d.uri other uri e)
  change_in d ds false e h =
      change_later change (bytes_eq d.uri uri) (bytes_eq other uri) d (open_at uri ds) (open_at uri (with_change other change ds))
      (one_at_most d.uri other uri e) h

  -- the document of that URI is changed, and no other
  open_at-with_change : (ds : List Open)
      → open_at uri (with_change other change ds) ≡ cond (bytes_eq other uri) (option_map change (open_at uri ds)) (open_at uri ds)
  open_at-with_change [] = change_none change (bytes_eq other uri)
  open_at-with_change (d ∷ ds) = change_in d ds (bytes_eq d.uri other) refl (open_at-with_change ds)

keeps_if : (b : Bool) (x d : Open) → x.uri ≡ d.uri → (cond b x d).uri ≡ d.uri
keeps_if true x d e = e
keeps_if false x d e = refl

-- ---- a document that is closed

keep_in : (uri other : List ℕ) (d : Open) (ds : List Open) (p : Bool) → bytes_eq d.uri other ≡ p → bytes_eq other uri ≡ false
    → open_at uri (without other ds) ≡ open_at uri ds → open_at uri (cond (not p) (d ∷ without other ds) (without other ds))
    ≡ cond (bytes_eq d.uri uri) (Some d) (open_at uri ds)
keep_in uri other d ds true e differ h =
    let apart : bytes_eq d.uri uri ≡ false = ap (λ (u : List ℕ). bytes_eq u uri) (same_uri d.uri other e) ∙ differ in rw apart h
keep_in uri other d ds false e differ h = ap (λ (x : Option Open). cond (bytes_eq d.uri uri) (Some d) x) h

-- another document stays
open_at-without_other : (uri other : List ℕ) (ds : List Open) → bytes_eq other uri ≡ false → open_at uri (without other ds) ≡ open_at uri ds
open_at-without_other uri other [] differ = refl
open_at-without_other uri other (d ∷ ds) differ = keep_in uri other d ds (bytes_eq d.uri other) refl differ (open_at-without_other uri other ds differ)

drop_in : (uri other : List ℕ) (d : Open) (ds : List Open) (p : Bool) → bytes_eq d.uri other ≡ p → bytes_eq other uri ≡ true
    → open_at uri (without other ds) ≡ None → open_at uri (cond (not p) (d ∷ without other ds) (without other ds)) ≡ None
drop_in uri other d ds true e same h = h
drop_in uri other d ds false e same h =
    let apart : bytes_eq d.uri uri ≡ false = ap (λ (u : List ℕ). bytes_eq d.uri u) (sym (same_uri other uri same)) ∙ e in
    rw apart h

-- none of the URI is left
open_at-without : (uri other : List ℕ) (ds : List Open) → bytes_eq other uri ≡ true → open_at uri (without other ds) ≡ None
open_at-without uri other [] same = refl
open_at-without uri other (d ∷ ds) same = drop_in uri other d ds (bytes_eq d.uri other) refl same (open_at-without uri other ds same)

cleared_other : (uri other : List ℕ) (before found : Option Open) → bytes_eq other uri ≡ false
    → shown_after uri before (option_map (λ (d : Open). cleared other) found) ≡ before
cleared_other uri other before None differ = refl
cleared_other uri other before (Some d) differ = rw differ refl

-- ---- requests show nothing

shown_fresh : (uri : List ℕ) (before : Option Open) (id : Data) (asked : Asked) → shown_by uri before (requested_fresh id asked).1 ≡ before
shown_fresh uri before id (initialize client) = refl
shown_fresh uri before id shutdown = refl
shown_fresh uri before id (about other query) = refl
shown_fresh uri before id unreadable = refl
shown_fresh uri before id (search held) = refl
shown_fresh uri before id unknown = refl

shown_about : (uri : List ℕ) (before : Option Open) (id : Data) (client : Client) (query : Query) (found : Option Open)
    → shown_by uri before (answered_of id client query found) ≡ before
shown_about uri before id client query None = refl
shown_about uri before id client query (Some document) = refl

shown_running : (uri : List ℕ) (before : Option Open) (client : Client) (documents : List Open) (id : Data) (asked : Asked)
    → shown_by uri before (requested_running client documents id asked).1 ≡ before
shown_running uri before client documents id (initialize other) = refl
shown_running uri before client documents id shutdown = refl
shown_running uri before client documents id (about other query) = shown_about uri before id client query (current_of (open_at other documents))
shown_running uri before client documents id unreadable = refl
shown_running uri before client documents id (search held) = refl
shown_running uri before client documents id unknown = refl

shown_requested : (uri : List ℕ) (before : Option Open) (documents : List Open) (phase : Phase) (id : Data) (asked : Asked)
    → shown_by uri before (requested documents phase id asked).1 ≡ before
shown_requested uri before documents Fresh id asked = shown_fresh uri before id asked
shown_requested uri before documents (Running client) id asked = shown_running uri before client documents id asked
shown_requested uri before documents Finished id asked = refl
shown_requested uri before documents (Ended status) id asked = refl

-- ---- what is shown unless faults are due

-- a document that is put in, whose faults are due
shown_put : (r : Bool) (seen : Option Open) (new : Open) (found : Option Open) → new.due ≡ true → IsShown seen found → IsShown seen (cond r (Some new) found)
shown_put true seen new found due h = λ none. absurd (clash new.due due none)
shown_put false seen new found due h = h

-- a document that is changed, whose faults are due then, or which stays as it is
shown_with : (change : Open → Open) (r : Bool) (seen found : Option Open)
    → ((d : Open) → IsShown seen (Some d) → IsShown seen (Some (change d))) → IsShown seen found → IsShown seen (cond r (option_map change found) found)
shown_with change false seen found keeps h = h
shown_with change true seen None keeps h = h
shown_with change true seen (Some d) keeps h = keeps d h

shown_edited : (seen : Option Open) (takes : Bool) (new d : Open) → new.due ≡ true → IsShown seen (Some d) → IsShown seen (Some (cond takes new d))
shown_edited seen true new d due h = λ none. absurd (clash new.due due none)
shown_edited seen false new d due h = h

-- a document that is out of date, of which that was shown
shown_out : (r : Bool) (seen found : Option Open) → IsShown seen found
    → IsShown (cond r (option_map outdated seen) seen) (cond r (option_map outdated found) found)
shown_out false seen found h = h
shown_out true seen None h = ap (option_map outdated) h
shown_out true seen (Some d) h = λ none. ap (option_map outdated) (h none)

module _ (uri : List ℕ) where
  -- a document that is closed
  shown_gone : (other : List ℕ) (seen : Option Open) (ds : List Open) (p : Bool) → bytes_eq other uri ≡ p → IsShown seen (open_at uri ds)
      → IsShown (shown_after uri seen (option_map (λ (d : Open). cleared other) (open_at other ds))) (open_at uri (without other ds))
  shown_gone other seen ds true e h =
      let found : open_at other ds ≡ open_at uri ds = ap (λ (u : List ℕ). open_at u ds) (same_uri other uri e) in
      rw (found, open_at-without uri other ds e) (cleared_seen (open_at uri ds) h)
    where
      cleared_seen : (found : Option Open) → IsShown seen found → shown_after uri seen (option_map (λ (d : Open). cleared other) found) ≡ None
      cleared_seen None k = k
      cleared_seen (Some d) k = rw e refl
  shown_gone other seen ds false e h =
      rw (cleared_other uri other seen (open_at other ds) e, open_at-without_other uri other ds e) h

  shown_told : (places : Places) (client : Client) (notice : Told) (seen : Option Open) (ds : List Open) → IsShown seen (open_at uri ds)
      → IsShown (shown_after uri seen (told places client notice ds).1) (open_at uri (told places client notice ds).0)
  shown_told places client exited seen ds h = h
  shown_told places client (opened other version text) seen ds h =
      let new = opened_for client other version text in
      rw (open_at-with_document uri new ds) (shown_put (bytes_eq other uri) seen new (open_at uri ds) refl h)
  shown_told places client (changed other version edits) seen ds h =
      let change = changed_by places version edits in
      let keeps = λ (d : Open). keeps_if (can_apply edits d) (with_edits places version edits d) d refl in
      rw (open_at-with_change uri other change keeps ds)
      (shown_with change (bytes_eq other uri) seen (open_at uri ds)
      (λ d k. shown_edited seen (can_apply edits d) (with_edits places version edits d) d refl k) h)
  shown_told places client (closed other) seen ds h = shown_gone other seen ds (bytes_eq other uri) refl h
  shown_told places client (unreadable None) seen ds h = h
  shown_told places client (unreadable (Some other)) seen ds h =
      rw (open_at-with_change uri other outdated (λ d. refl) ds) (shown_out (bytes_eq other uri) seen (open_at uri ds) h)
  shown_told places client nothing seen ds h = h

  shown_in : (places : Places) (phase : Phase) (notice : Told) (seen : Option Open) (ds : List Open) → IsShown seen (open_at uri ds)
      → IsShown (shown_after uri seen (told_in places phase notice ds).1) (open_at uri (told_in places phase notice ds).0)
  shown_in places Fresh notice seen ds h = h
  shown_in places (Running client) notice seen ds h = shown_told places client notice seen ds h
  shown_in places Finished notice seen ds h = h
  shown_in places (Ended status) notice seen ds h = h

  shown_step : (places : Places) (state : State) (message : Meaning) (seen : Option Open) → IsShown seen (open_at uri state.documents)
      → IsShown (shown_after uri seen (step places state message).1) (open_at uri (step places state message).0.documents)
  shown_step places state (request id asked) seen h =
      subst (λ (s : Option Open). IsShown s (open_at uri state.documents)) (sym (shown_requested uri seen state.documents state.phase id asked)) h
  shown_step places state (notification notice) seen h = shown_in places state.phase notice seen state.documents h
  shown_step places state response seen h = h
  shown_step places state (faulty id) seen h = h

-- ---- each URI is that of one document at most

abbrev AreUnique : List Open → Type 0
AreUnique [] = Unit {0}
AreUnique (d ∷ ds) = (open_at d.uri ds ≡ None) × AreUnique ds

-- URIs that differ differ the other way round
differ_too : (a b : List ℕ) (p : Bool) → bytes_eq b a ≡ p → bytes_eq a b ≡ false → bytes_eq b a ≡ false
differ_too a b false e differ = e
differ_too a b true e differ = absurd (clash (bytes_eq a b) (is_same a b (sym (same_uri b a e))) differ)

unique_put_in : (new d : Open) (ds : List Open) (p : Bool) → bytes_eq d.uri new.uri ≡ p → open_at d.uri ds ≡ None → AreUnique ds → AreUnique (with_document new ds)
    → AreUnique (cond p (new ∷ ds) (d ∷ with_document new ds))
unique_put_in new d ds true e none all put = (subst (λ (u : List ℕ). open_at u ds ≡ None) (same_uri d.uri new.uri e) none, all)
unique_put_in new d ds false e none all put =
    let other : bytes_eq new.uri d.uri ≡ false = differ_too d.uri new.uri (bytes_eq new.uri d.uri) refl e in
    (open_at-with_document d.uri new ds ∙ rw other none, put)

unique_put : (new : Open) (ds : List Open) → AreUnique ds → AreUnique (with_document new ds)
unique_put new [] h = (refl, tt)
unique_put new (d ∷ ds) h = unique_put_in new d ds (bytes_eq d.uri new.uri) refl h.0 h.1 (unique_put new ds h.1)

none_changed : (change : Open → Open) (b : Bool) (found : Option Open) → found ≡ None → cond b (option_map change found) found ≡ None
none_changed change true found e = rw e refl
none_changed change false found e = e

unique_change_in : (other : List ℕ) (change : Open → Open) (keeps : (d : Open) → (change d).uri ≡ d.uri) (d : Open) (ds : List Open) (p : Bool)
    → open_at d.uri ds ≡ None → AreUnique ds → AreUnique (with_change other change ds) → AreUnique (cond p (change d ∷ ds) (d ∷ with_change other change ds))
unique_change_in other change keeps d ds true none all rest = (subst (λ (u : List ℕ). open_at u ds ≡ None) (sym (keeps d)) none, all)
unique_change_in other change keeps d ds false none all rest =
    (open_at-with_change d.uri other change keeps ds ∙ none_changed change (bytes_eq other d.uri) (open_at d.uri ds) none, rest)

unique_change : (other : List ℕ) (change : Open → Open) (keeps : (d : Open) → (change d).uri ≡ d.uri) (ds : List Open) → AreUnique ds
    → AreUnique (with_change other change ds)
unique_change other change keeps [] h = tt
unique_change other change keeps (d ∷ ds) h =
    unique_change_in other change keeps d ds (bytes_eq d.uri other) h.0 h.1 (unique_change other change keeps ds h.1)

unique_without_in : (other : List ℕ) (d : Open) (ds : List Open) (p : Bool) → bytes_eq d.uri other ≡ p → open_at d.uri ds ≡ None → AreUnique (without other ds)
    → AreUnique (cond (not p) (d ∷ without other ds) (without other ds))
unique_without_in other d ds true e none kept = kept
unique_without_in other d ds false e none kept =
    let differ : bytes_eq other d.uri ≡ false = differ_too d.uri other (bytes_eq other d.uri) refl e in
    (open_at-without_other d.uri other ds differ ∙ none, kept)

unique_without : (other : List ℕ) (ds : List Open) → AreUnique ds → AreUnique (without other ds)
unique_without other [] h = tt
unique_without other (d ∷ ds) h = unique_without_in other d ds (bytes_eq d.uri other) refl h.0 (unique_without other ds h.1)

published_either : (b : Bool) (d : Open) (found other : Option Open) → other ≡ option_map published found
    → cond b (Some (published d)) other ≡ option_map published (cond b (Some d) found)
published_either true d found other e = refl
published_either false d found other e = e

open_published : (uri : List ℕ) (ds : List Open) → open_at uri (map published ds) ≡ option_map published (open_at uri ds)
open_published uri [] = refl
open_published uri (d ∷ ds) = published_either (bytes_eq d.uri uri) d (open_at uri ds) (open_at uri (map published ds)) (open_published uri ds)

unique_published : (ds : List Open) → AreUnique ds → AreUnique (map published ds)
unique_published [] h = tt
unique_published (d ∷ ds) h = (open_published d.uri ds ∙ ap (option_map published) h.0, unique_published ds h.1)

unique_told : (places : Places) (client : Client) (notice : Told) (ds : List Open) → AreUnique ds → AreUnique (told places client notice ds).0
unique_told places client exited ds h = h
unique_told places client (opened other version text) ds h = unique_put (opened_for client other version text) ds h
unique_told places client (changed other version edits) ds h =
    unique_change other (changed_by places version edits) (λ d. keeps_if (can_apply edits d) (with_edits places version edits d) d refl) ds h
unique_told places client (closed other) ds h = unique_without other ds h
unique_told places client (unreadable None) ds h = h
unique_told places client (unreadable (Some other)) ds h = unique_change other outdated (λ d. refl) ds h
unique_told places client nothing ds h = h

unique_in : (places : Places) (phase : Phase) (notice : Told) (ds : List Open) → AreUnique ds → AreUnique (told_in places phase notice ds).0
unique_in places Fresh notice ds h = h
unique_in places (Running client) notice ds h = unique_told places client notice ds h
unique_in places Finished notice ds h = h
unique_in places (Ended status) notice ds h = h

unique_step : (places : Places) (state : State) (message : Meaning) → AreUnique state.documents → AreUnique (step places state message).0.documents
unique_step places state (request id asked) h = h
unique_step places state (notification notice) h = unique_in places state.phase notice state.documents h
unique_step places state response h = h
unique_step places state (faulty id) h = h

-- ---- what is due is published

last_append : (uri : List ℕ) (seen : Option Open) (a b : List Answer) → last_shown uri seen (a ++ b) ≡ last_shown uri (last_shown uri seen a) b
last_append uri seen [] b = refl
last_append uri seen (answer ∷ a) b = last_append uri (shown_by uri seen answer) a b

last_one : (uri : List ℕ) (seen : Option Open) (answer : Option Answer) → last_shown uri seen (option_to_list answer) ≡ shown_after uri seen answer
last_one uri seen None = refl
last_one uri seen (Some answer) = refl

is_published : (d : Open) → d.due ≡ false → published d ≡ d
is_published d e =
    ap (λ (b : Bool). record { uri = d.uri; version = d.version; text = d.text; current = d.current; due = b; client = d.client }) (sym e)

due_other : (uri : List ℕ) (seen : Option Open) (d : Open) (due : Bool) → bytes_eq d.uri uri ≡ false
    → last_shown uri seen (cond due (shown (published d) ∷ []) []) ≡ seen
due_other uri seen d false e = refl
due_other uri seen d true e = rw e refl

due_same : (uri : List ℕ) (seen : Option Open) (d : Open) (due : Bool) → d.due ≡ due → bytes_eq d.uri uri ≡ true → (d.due ≡ false → seen ≡ Some d)
    → last_shown uri seen (cond due (shown (published d) ∷ []) []) ≡ Some (published d)
due_same uri seen d true is e h = rw e refl
due_same uri seen d false is e h = h is ∙ ap (λ (x : Open). Some x) (sym (is_published d is))

-- no document of the URI is among those that are published
none_shown_in : (uri : List ℕ) (seen : Option Open) (d : Open) (ds : List Open) (p : Bool) → bytes_eq d.uri uri ≡ p
    → (open_at uri ds ≡ None → last_shown uri seen (shown_due ds) ≡ seen)
    → cond p (Some d) (open_at uri ds) ≡ None → last_shown uri seen (shown_if_due d ++ shown_due ds) ≡ seen
none_shown_in uri seen d ds true e more none = cc
none_shown_in uri seen d ds false e more none =
    last_append uri seen (shown_if_due d) (shown_due ds)
    ∙ (ap (λ (s : Option Open). last_shown uri s (shown_due ds)) (due_other uri seen d d.due e) ∙ more none)

none_shown : (uri : List ℕ) (seen : Option Open) (ds : List Open) → open_at uri ds ≡ None → last_shown uri seen (shown_due ds) ≡ seen
none_shown uri seen [] h = refl
none_shown uri seen (d ∷ ds) h = none_shown_in uri seen d ds (bytes_eq d.uri uri) refl (none_shown uri seen ds) h

published_shown_in : (uri : List ℕ) (seen : Option Open) (d : Open) (ds : List Open) (p : Bool) → bytes_eq d.uri uri ≡ p → open_at d.uri ds ≡ None
    → (IsShown seen (open_at uri ds) → last_shown uri seen (shown_due ds) ≡ open_at uri (map published ds))
    → IsShown seen (cond p (Some d) (open_at uri ds))
    → last_shown uri seen (shown_if_due d ++ shown_due ds) ≡ cond p (Some (published d)) (open_at uri (map published ds))
published_shown_in uri seen d ds true e none more h =
    let other : open_at uri ds ≡ None = subst (λ (u : List ℕ). open_at u ds ≡ None) (same_uri d.uri uri e) none in
    last_append uri seen (shown_if_due d) (shown_due ds)
    ∙ (ap (λ (s : Option Open). last_shown uri s (shown_due ds)) (due_same uri seen d d.due refl e h) ∙ none_shown uri (Some (published d)) ds other)
published_shown_in uri seen d ds false e none more h =
    last_append uri seen (shown_if_due d) (shown_due ds)
    ∙ (ap (λ (s : Option Open). last_shown uri s (shown_due ds)) (due_other uri seen d d.due e) ∙ more h)

published_shown : (uri : List ℕ) (seen : Option Open) (ds : List Open) → AreUnique ds → IsShown seen (open_at uri ds)
    → last_shown uri seen (shown_due ds) ≡ open_at uri (map published ds)
published_shown uri seen [] unique h = h
published_shown uri seen (d ∷ ds) unique h =
    published_shown_in uri seen d ds (bytes_eq d.uri uri) refl unique.0 (published_shown uri seen ds unique.1) h

-- ---- turns

-- what is known of a URI
record Known (uri : List ℕ) (seen : Option Open) (state : State) : Type 0 where
  shown_is : IsShown seen (open_at uri state.documents)
  unique : AreUnique state.documents

of_equal : (seen found : Option Open) → seen ≡ found → IsShown seen found
of_equal seen None e = e
of_equal seen (Some d) e = λ none. e

module _ (places : Places) (uri : List ℕ) where
  known_published : (state : State) (seen : Option Open) → Known uri seen state → Known uri (last_shown uri seen (shown_due state.documents)) (all_published state)
  known_published state seen h = record {
    shown_is = of_equal _ _ (published_shown uri seen state.documents h.unique h.shown_is);
    unique = unique_published state.documents h.unique;
  }

  known_step : (state : State) (message : Meaning) (seen : Option Open) → Known uri seen state
      → Known uri (last_shown uri seen (option_to_list (step places state message).1)) (step places state message).0
  known_step state message seen h = record {
    shown_is = rw (last_one uri seen (step places state message).1) (shown_step uri places state message seen h.shown_is);
    unique = unique_step places state message h.unique;
  }

  known_if : (state : State) (wanted : Bool) (seen : Option Open) → Known uri seen state
      → Known uri (last_shown uri seen (due_if wanted state)) (published_if wanted state)
  known_if state true seen h = known_published state seen h
  known_if state false seen h = h

  known_taken : (state : State) (message : Meaning) (seen : Option Open) → Known uri seen state
      → Known uri (last_shown uri seen (taken places state message).1) (taken places state message).0
  known_taken state message seen h =
      let first = publishes_first message in
      let before = published_if first state in
      rw (last_append uri seen (due_if first state) (option_to_list (step places before message).1))
      (known_step before message (last_shown uri seen (due_if first state)) (known_if state first seen h))

  known_value : (state : State) (value : Option Data) (seen : Option Open) → Known uri seen state
      → Known uri (last_shown uri seen (taken_value places state value).1) (taken_value places state value).0
  known_value state None seen h = h
  known_value state (Some value) seen h = known_taken state (message_of value) seen h

  known_settled : (after : State × List Answer) (waits : Bool) (seen : Option Open) → Known uri (last_shown uri seen after.1) after.0
      → Known uri (last_shown uri seen (settled waits after).1) (settled waits after).0
  known_settled after waits seen h =
      rw (last_append uri seen after.1 (due_if (not waits) after.0)) (known_if after.0 (not waits) (last_shown uri seen after.1) h)

  -- nothing is due after a turn after which no frame waits
  all_settled : (after : State × List Answer) (seen : Option Open) → Known uri (last_shown uri seen after.1) after.0
      → last_shown uri seen (settled false after).1 ≡ open_at uri (settled false after).0.documents
  all_settled after seen h =
      last_append uri seen after.1 (shown_due after.0.documents)
      ∙ published_shown uri (last_shown uri seen after.1) after.0.documents h.unique h.shown_is

  -- ---- runs of messages

  known_after : (state : State) (turns : List (Meaning × Bool)) (seen : Option Open) → Known uri seen state
      → Known uri (last_shown uri seen (answers_to places state turns)) (state_after places state turns)
  known_after state [] seen h = h
  known_after state (turn ∷ turns) seen h =
      let after = taken places state turn.0 in
      let one = known_settled after turn.1 seen (known_taken state turn.0 seen h) in
      rw (last_append uri seen (settled turn.1 after).1 (answers_to places (settled turn.1 after).0 turns))
      (known_after (settled turn.1 after).0 turns (last_shown uri seen (settled turn.1 after).1) one)

  all_at_last : (state : State) (turns : List (Meaning × Bool)) (message : Meaning) (seen : Option Open) → Known uri seen state
      → last_shown uri seen (answers_to places state (turns ++ (message, false) ∷ []))
      ≡ open_at uri (state_after places state (turns ++ (message, false) ∷ [])).documents
  all_at_last state [] message seen h =
      let after = taken places state message in
      ap (last_shown uri seen) (append-nil (settled false after).1) ∙ all_settled after seen (known_taken state message seen h)
  all_at_last state (turn ∷ turns) message seen h =
      let after = taken places state turn.0 in
      let next = (settled turn.1 after).0 in
      let one = known_settled after turn.1 seen (known_taken state turn.0 seen h) in
      last_append uri seen (settled turn.1 after).1 (answers_to places next (turns ++ (message, false) ∷ []))
      ∙ all_at_last next turns message (last_shown uri seen (settled turn.1 after).1) one

  -- ---- runs of frames

  known_served : (state : State) (turns : List Turn) (seen : Option Open) → Known uri seen state
      → Known uri (last_shown uri seen (replies_to places state turns)) (served_state places state turns)
  known_served state [] seen h = h
  known_served state (turn ∷ turns) seen h =
      let after = taken_value places state turn.value in
      let one = known_settled after turn.waits seen (known_value state turn.value seen h) in
      rw (last_append uri seen (settled turn.waits after).1 (replies_to places (settled turn.waits after).0 turns))
      (known_served (settled turn.waits after).0 turns (last_shown uri seen (settled turn.waits after).1) one)

  served_at_last : (state : State) (turns : List Turn) (value : Option Data) (seen : Option Open) → Known uri seen state
      → last_shown uri seen (replies_to places state (turns ++ record { value = value; waits = false } ∷ []))
      ≡ open_at uri (served_state places state (turns ++ record { value = value; waits = false } ∷ [])).documents
  served_at_last state [] value seen h =
      let after = taken_value places state value in
      ap (last_shown uri seen) (append-nil (settled false after).1) ∙ all_settled after seen (known_value state value seen h)
  served_at_last state (turn ∷ turns) value seen h =
      let after = taken_value places state turn.value in
      let next = (settled turn.waits after).0 in
      let one = known_settled after turn.waits seen (known_value state turn.value seen h) in
      last_append uri seen (settled turn.waits after).1 (replies_to places next (turns ++ record { value = value; waits = false } ∷ []))
      ∙ served_at_last next turns value (last_shown uri seen (settled turn.waits after).1) one

known_start : (uri : List ℕ) → Known uri None at_start
known_start uri = record { shown_is = refl; unique = tt }

pub all_shown : OpenDocumentsAreShown
all_shown places turns uri = (known_after places uri at_start turns None (known_start uri)).shown_is

pub all_shown_at_last : AllIsShownAtLast
all_shown_at_last places turns message uri = all_at_last places uri at_start turns message None (known_start uri)

pub all_served_shown : ServedDocumentsAreShown
all_served_shown places turns uri = (known_served places uri at_start turns None (known_start uri)).shown_is

pub all_served_at_last : AllIsServedAtLast
all_served_at_last places turns value uri = served_at_last places uri at_start turns value None (known_start uri)

-- ---- questions

-- a question to a server in that phase
asked_in : (places : Places) (phase : Phase) (state : State) (client : Client) (id : Data) (uri : List ℕ) (query : Query)
    → state.phase ≡ phase → phase ≡ Running client
    → (requested state.documents state.phase id (about uri query)).1 ≡ answered_of id client query (current_of (open_at uri state.documents))
asked_in places phase state client id uri query is runs = rw (is ∙ runs) refl

pub all_answered : AnswersAreOfShownTexts
all_answered places turns client id uri query runs =
    let state = state_after places at_start turns in
    let known = known_after places uri at_start turns None (known_start uri) in
    let seen = last_shown uri None (answers_to places at_start turns) in
    let shown_now : last_shown uri None (answers_to places at_start turns ++ shown_due state.documents) ≡ open_at uri (map published state.documents) =
    last_append uri None (answers_to places at_start turns) (shown_due state.documents)
    ∙ published_shown uri seen state.documents known.unique known.shown_is in (
      shown_due state.documents,
      refl,
      ap (λ (a : Answer). shown_due state.documents ++ a ∷ [])
          (asked_in places state.phase (all_published state) client id uri query refl runs
          ∙ ap (λ (found : Option Open). answered_of id client query (current_of found)) (sym shown_now)),
    )
