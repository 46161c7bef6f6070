-- What a place among documents says of them.
use Rattle.std.proofs.Common.{ℕ, suc, ◌≡◌, List, [], ◌∷◌, ◌++◌, Bool, true, false, not, cond, Option, None, Some, option_map, map, get_or, refl, sym, ap}
use Rattle.std.proofs.Common.{subst, ◌∙◌}
use Rattle.std.specs.List.{filter}
use Rattle.std.specs.Str.{bytes_eq}
use Rattle.std.proofs.Math.ListN.{set}
use Rattle.lsp_server.specs.Steps.{Open, open_at, with_change, with_document, without}
use Rattle.lsp_server.specs.inside.Views.{place_of}

-- ---- a document that is put in

-- at its place, or at the end
abbrev pub IsPut : List Open → List Open → Open → Option ℕ → Type 0
IsPut all documents new None = all ≡ documents ++ new ∷ []
IsPut all documents new (Some at) = all ≡ set documents at new

put_in : (new d : Open) (all ds : List Open) (p : Bool) (place : Option ℕ) → IsPut all ds new place
    → IsPut (cond p (new ∷ ds) (d ∷ all)) (d ∷ ds) new (cond p (Some 0) (option_map suc place))
put_in new d all ds true place h = refl
put_in new d all ds false None h = ap (λ (rest : List Open). d ∷ rest) h
put_in new d all ds false (Some at) h = ap (λ (rest : List Open). d ∷ rest) h

pub put_at : (new : Open) (ds : List Open) → IsPut (with_document new ds) ds new (place_of new.uri ds)
put_at new [] = refl
put_at new (d ∷ ds) = put_in new d (with_document new ds) ds (bytes_eq d.uri new.uri) (place_of new.uri ds) (put_at new ds)

-- ---- a document that is changed

-- at its place, where it is found; or none is
abbrev pub IsChanged : List Open → Option Open → List Open → (Open → Open) → Option ℕ → Type 0
IsChanged all found documents change None = (all ≡ documents) × (found ≡ None)
IsChanged all found documents change (Some at) = (x : Open) → x ≡ get_or documents at x → (all ≡ set documents at (change x)) × (found ≡ Some x)

change_in : (change : Open → Open) (d : Open) (all ds : List Open) (found : Option Open) (p : Bool) (place : Option ℕ) → IsChanged all found ds change place
    → IsChanged (cond p (change d ∷ ds) (d ∷ all)) (cond p (Some d) found) (d ∷ ds) change (cond p (Some 0) (option_map suc place))
change_in change d all ds found true place h = λ x e. (ap (λ (y : Open). change y ∷ ds) (sym e), ap (λ (y : Open). Some y) (sym e))
change_in change d all ds found false None h = (ap (λ (rest : List Open). d ∷ rest) h.0, h.1)
change_in change d all ds found false (Some at) h = λ x e. (ap (λ (rest : List Open). d ∷ rest) (h x e).0, (h x e).1)

pub changed_at_place : (uri : List ℕ) (change : Open → Open) (ds : List Open)
    → IsChanged (with_change uri change ds) (open_at uri ds) ds change (place_of uri ds)
changed_at_place uri change [] = (refl, refl)
changed_at_place uri change (d ∷ ds) =
    change_in change d (with_change uri change ds) ds (open_at uri ds) (bytes_eq d.uri uri) (place_of uri ds) (changed_at_place uri change ds)

-- ---- a document that is closed

-- none is found, and none goes; or one is found
abbrev pub IsClosed : List Open → Option Open → List Open → Option ℕ → Type 0
IsClosed all found documents None = (all ≡ documents) × (found ≡ None)
IsClosed all found documents (Some at) = (d : Open) × (found ≡ Some d)

close_in : (d : Open) (all ds : List Open) (found : Option Open) (p : Bool) (place : Option ℕ) → IsClosed all found ds place
    → IsClosed (cond (not p) (d ∷ all) all) (cond p (Some d) found) (d ∷ ds) (cond p (Some 0) (option_map suc place))
close_in d all ds found true place h = (d, refl)
close_in d all ds found false None h = (ap (λ (rest : List Open). d ∷ rest) h.0, h.1)
close_in d all ds found false (Some at) h = h

closed_at_place : (uri : List ℕ) (ds : List Open) → IsClosed (without uri ds) (open_at uri ds) ds (place_of uri ds)
closed_at_place uri [] = (refl, refl)
closed_at_place uri (d ∷ ds) = close_in d (without uri ds) ds (open_at uri ds) (bytes_eq d.uri uri) (place_of uri ds) (closed_at_place uri ds)

filter_in : {X : Type 0} (f : X → Open) (x : X) (all : List X) (rest : List Open) (p : Bool) → map f all ≡ rest
    → map f (cond p (x ∷ all) all) ≡ cond p (f x ∷ rest) rest
filter_in f x all rest true h = ap (λ (l : List Open). f x ∷ l) h
filter_in f x all rest false h = h

pub filter_seen : {X : Type 0} (f : X → Open) (test : Open → Bool) (xs : List X) → map f (filter (λ x. test (f x)) xs) ≡ filter test (map f xs)
filter_seen f test [] = refl
filter_seen f test (x ∷ xs) = filter_in f x (filter (λ y. test (f y)) xs) (filter test (map f xs)) (test (f x)) (filter_seen f test xs)

-- ---- what callers of `find` use

pub put_found : (new : Open) (ds : List Open) (uri : List ℕ) (at : ℕ) → uri ≡ new.uri → Some at ≡ place_of uri ds → with_document new ds ≡ set ds at new
put_found new ds uri at e p =
    subst (λ (o : Option ℕ). IsPut (with_document new ds) ds new o) (ap (λ (u : List ℕ). place_of u ds) (sym e) ∙ sym p) (put_at new ds)

pub put_none : (new : Open) (ds : List Open) (uri : List ℕ) → uri ≡ new.uri → None ≡ place_of uri ds → with_document new ds ≡ ds ++ new ∷ []
put_none new ds uri e p = subst (λ (o : Option ℕ). IsPut (with_document new ds) ds new o) (ap (λ (u : List ℕ). place_of u ds) (sym e) ∙ sym p) (put_at new ds)

pub change_none : (change : Open → Open) (ds : List Open) (uri : List ℕ) → None ≡ place_of uri ds → (with_change uri change ds ≡ ds) × (open_at uri ds ≡ None)
change_none change ds uri p =
    subst (λ (o : Option ℕ). IsChanged (with_change uri change ds) (open_at uri ds) ds change o) (sym p) (changed_at_place uri change ds)

pub change_found : (change : Open → Open) (ds : List Open) (uri : List ℕ) (at : ℕ) → Some at ≡ place_of uri ds → (x : Open) → x ≡ get_or ds at x
    → (with_change uri change ds ≡ set ds at (change x)) × (open_at uri ds ≡ Some x)
change_found change ds uri at p =
    subst (λ (o : Option ℕ). IsChanged (with_change uri change ds) (open_at uri ds) ds change o) (sym p) (changed_at_place uri change ds)

pub close_none : (ds : List Open) (uri : List ℕ) → None ≡ place_of uri ds → (without uri ds ≡ ds) × (open_at uri ds ≡ None)
close_none ds uri p = subst (λ (o : Option ℕ). IsClosed (without uri ds) (open_at uri ds) ds o) (sym p) (closed_at_place uri ds)

pub close_found : (ds : List Open) (uri : List ℕ) (at : ℕ) → Some at ≡ place_of uri ds → (d : Open) × (open_at uri ds ≡ Some d)
close_found ds uri at p = subst (λ (o : Option ℕ). IsClosed (without uri ds) (open_at uri ds) ds o) (sym p) (closed_at_place uri ds)

pub open_none : (ds : List Open) (uri : List ℕ) → None ≡ place_of uri ds → open_at uri ds ≡ None
open_none ds uri p = (change_none (λ d. d) ds uri p).1

pub open_found : (ds : List Open) (uri : List ℕ) (at : ℕ) → Some at ≡ place_of uri ds → (x : Open) → x ≡ get_or ds at x → open_at uri ds ≡ Some x
open_found ds uri at p x e = (change_found (λ d. d) ds uri at p x e).1
