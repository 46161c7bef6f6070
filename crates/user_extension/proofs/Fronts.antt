-- What the writer has written when its walk has passed some of the rows.
use Rattle.std.proofs.Common.{◌≡◌, ℕ, ◌+◌, ◌<◌, ◌≤◌, List, [], ◌∷◌, ◌++◌, length, get_or, take, drop, refl, sym, ap, ◌∙◌, arith, append-nil, append_assoc}
use Rattle.std.proofs.Common.{length-append}
use Rattle.std.specs.List.{flat_map}
use Rattle.std.proofs.lemmas.Grind.{flat_map-append}
use Rattle.std.proofs.lemmas.List.{map-append, take_more, take_all, take-append-drop}
use Rattle.ti_layout.specs.declared.layout.Format.{Format}
use Rattle.ti_layout.specs.Layout.{number_section, number_bytes}
use Rattle.ti_layout.proofs.Spelled.{spelled-append, spelled-one, spelled-none}
use Rattle.std.proofs.Common.{Bor}
use Rattle.ti_layout.specs.declared.values.Content.{Content as Lent}
use Rattle.ti_layout.specs.declared.values.Content.TheVariants as seen
use Rattle.ti_layout.specs.Values.{content_seen}
use Rattle.user_extension.specs.declared.user_defined.UserDefined.{UserDefined}
use Rattle.user_extension.specs.UserDefined.{Row, rows_of, row_of}
use Rattle.user_extension.specs.Extension.{names, numbers, texts, table, ended, places, number_part, text_part}

-- the rows of the front
abbrev pub front : ℕ → List UserDefined → List Row
front n rows = rows_of (take n rows)

pub front_all : (rows : List UserDefined) (n : ℕ) → length rows ≤ n → front n rows ≡ rows_of rows
front_all rows n le = ap (λ (xs : List UserDefined). rows_of xs) (take_all n rows le)

pub front_more : (rows : List UserDefined) (n : ℕ) (d : UserDefined) → n < length rows → front (n + 1) rows ≡ front n rows ++ row_of (get_or rows n d) ∷ []
front_more rows n d lt = ap (λ (xs : List UserDefined). rows_of xs) (take_more rows n d lt) ∙ map-append (λ u. row_of u) (take n rows) (get_or rows n d ∷ [])

pub front_rest : (rows : List UserDefined) (n : ℕ) → rows_of rows ≡ front n rows ++ rows_of (drop n rows)
front_rest rows n = sym (ap (λ (xs : List UserDefined). rows_of xs) (take-append-drop n rows)) ∙ map-append (λ u. row_of u) (take n rows) (drop n rows)

-- what each row gives, one after another
pub parts_more : {A : Type 0} (f : Row → List A) (rows : List UserDefined) (n : ℕ) (d : UserDefined) → n < length rows
    → flat_map f (front (n + 1) rows) ≡ flat_map f (front n rows) ++ f (row_of (get_or rows n d))
parts_more f rows n d lt =
    ap (λ xs. flat_map f xs) (front_more rows n d lt) ∙ flat_map-append f (front n rows) (row_of (get_or rows n d) ∷ [])
    ∙ ap (λ t. flat_map f (front n rows) ++ t) (append-nil (f (row_of (get_or rows n d))))

pub names_more : (rows : List UserDefined) (n : ℕ) (d : UserDefined) → n < length rows → names (front (n + 1) rows) ≡ names (front n rows)
    ++ (get_or rows n d).name.now ∷ []
names_more rows n d lt =
    ap (λ (xs : List Row). names xs) (front_more rows n d lt) ∙ map-append (λ (v : Row). v.0) (front n rows) (row_of (get_or rows n d) ∷ [])

pub places_append : (at : ℕ) (ts : List (List ℕ)) (t : List ℕ) → places at (ts ++ t ∷ []) ≡ places at ts ++ (at + length (table ts)) ∷ []
places_append at [] t = ap (λ (n : ℕ). n ∷ []) (omega arith)
places_append at (s ∷ ts) t =
    ap (λ (ns : List ℕ). at ∷ ns) (places_append (at + length (ended s)) ts t
    ∙ ap (λ (n : ℕ). places (at + length (ended s)) ts ++ n ∷ []) (omega (arith, length-append (ended s) (table ts))))

pub table_append : (ts : List (List ℕ)) (t : List ℕ) → table (ts ++ t ∷ []) ≡ table ts ++ ended t
table_append ts t = flat_map-append (λ (x : List ℕ). ended x) ts (t ∷ []) ∙ ap (λ x. table ts ++ x) (append-nil (ended t))

pub length-ended : (t : List ℕ) → length (ended t) ≡ length t + 1
length-ended t = length-append t (0 ∷ [])

pub spelled_push : (w : Format) (ns : List ℕ) (n : ℕ) → number_section w (ns ++ n ∷ []) ≡ number_section w ns ++ number_bytes w n
spelled_push w ns n = spelled-append w ns (n ∷ []) ∙ ap (λ t. number_section w ns ++ t) (spelled-one w n)

-- nothing is written yet
pub begun : (w : Format) (image : List ℕ) → image ≡ image ++ number_section w []
begun w image = sym (ap (λ t. image ++ t) (spelled-none w) ∙ append-nil image)

-- one more number
pub number_put : (w : Format) (start image new ns more : List ℕ) (n : ℕ) → image ≡ start ++ number_section w ns → new ≡ image ++ number_bytes w n
    → more ≡ ns ++ n ∷ [] → new ≡ start ++ number_section w more
number_put w start image new ns more n e f g =
    f ∙ ap (λ t. t ++ number_bytes w n) e ∙ append_assoc start (number_section w ns) (number_bytes w n) ∙ ap (λ t. start ++ t) (sym (spelled_push w ns n))
    ∙ ap (λ t. start ++ number_section w t) (sym g)

-- the texts so far and one more are no more than all
pub within : (ts : List Row → List (List ℕ)) → ((a b : List Row) → ts (a ++ b) ≡ ts a ++ ts b) → (rows : List UserDefined) (n : ℕ)
    → length (table (ts (front n rows))) ≤ length (table (ts (rows_of rows)))
within ts splits rows n =
    let e : table (ts (rows_of rows)) ≡ table (ts (front n rows)) ++ table (ts (rows_of (drop n rows))) =
    ap (λ (x : List Row). table (ts x)) (front_rest rows n) ∙ ap (λ x. table x) (splits (front n rows) (rows_of (drop n rows)))
    ∙ flat_map-append (λ (x : List ℕ). ended x) (ts (front n rows)) (ts (rows_of (drop n rows))) in
    omega (arith, ap length e, length-append (table (ts (front n rows))) (table (ts (rows_of (drop n rows)))))

names_split : (a b : List Row) → names (a ++ b) ≡ names a ++ names b
names_split a b = map-append (λ (v : Row). v.0) a b

texts_split : (a b : List Row) → texts (a ++ b) ≡ texts a ++ texts b
texts_split a b = flat_map-append (λ (v : Row). text_part v.1) a b

-- the place of one more name
pub record NameNext (rows : List UserDefined) (n : ℕ) (d : UserDefined) : Type 0 where
  pub places_are : places 0 (names (front (n + 1) rows)) ≡ places 0 (names (front n rows)) ++ length (table (names (front n rows))) ∷ []
  pub size : length (table (names (front (n + 1) rows))) ≡ length (table (names (front n rows))) + (length (get_or rows n d).name.now + 1)
  pub fits : length (table (names (front n rows))) + (length (get_or rows n d).name.now + 1) ≤ length (table (names (rows_of rows)))

pub name_next : (rows : List UserDefined) (n : ℕ) (d : UserDefined) → n < length rows → NameNext rows n d
name_next rows n d lt =
    let more = names_more rows n d lt in
    let t = (get_or rows n d).name.now in
    let size : length (table (names (front (n + 1) rows))) ≡ length (table (names (front n rows))) + (length t + 1) =
    ap (λ x. length (table x)) more ∙ ap length (table_append (names (front n rows)) t) ∙ length-append (table (names (front n rows))) (ended t)
    ∙ ap (λ (k : ℕ). length (table (names (front n rows))) + k) (length-ended t) in
    record {
      places_are = ap (places 0) more ∙ places_append 0 (names (front n rows)) t ∙ ap (λ (k : ℕ). places 0 (names (front n rows)) ++ k ∷ []) (omega arith);
      size = size;
      fits = omega (arith, size, within (λ x. names x) names_split rows (n + 1));
    }

-- the place of one more text
pub record TextNext (rows : List UserDefined) (n : ℕ) (t : List ℕ) : Type 0 where
  pub places_are : places 0 (texts (front (n + 1) rows)) ≡ places 0 (texts (front n rows)) ++ length (table (texts (front n rows))) ∷ []
  pub size : length (table (texts (front (n + 1) rows))) ≡ length (table (texts (front n rows))) + (length t + 1)
  pub fits : length (table (texts (front n rows))) + (length t + 1) ≤ length (table (texts (rows_of rows)))

pub text_next : (rows : List UserDefined) (n : ℕ) (d : UserDefined) (t : List ℕ) → n < length rows → text_part (row_of (get_or rows n d)).1 ≡ t ∷ []
    → TextNext rows n t
text_next rows n d t lt is =
    let more : texts (front (n + 1) rows) ≡ texts (front n rows) ++ t ∷ [] =
    parts_more (λ v. text_part v.1) rows n d lt ∙ ap (λ x. texts (front n rows) ++ x) is in
    let size : length (table (texts (front (n + 1) rows))) ≡ length (table (texts (front n rows))) + (length t + 1) =
    ap (λ x. length (table x)) more ∙ ap length (table_append (texts (front n rows)) t) ∙ length-append (table (texts (front n rows))) (ended t)
    ∙ ap (λ (k : ℕ). length (table (texts (front n rows))) + k) (length-ended t) in
    record {
      places_are = ap (places 0) more ∙ places_append 0 (texts (front n rows)) t ∙ ap (λ (k : ℕ). places 0 (texts (front n rows)) ++ k ∷ []) (omega arith);
      size = size;
      fits = omega (arith, size, within (λ x. texts x) texts_split rows (n + 1));
    }

-- a row that gives nothing
pub passed : {A : Type 0} (f : Row → List A) (rows : List UserDefined) (n : ℕ) (d : UserDefined) → n < length rows → f (row_of (get_or rows n d)) ≡ []
    → flat_map f (front (n + 1) rows) ≡ flat_map f (front n rows)
passed f rows n d lt none = parts_more f rows n d lt ∙ ap (λ t. flat_map f (front n rows) ++ t) none ∙ append-nil (flat_map f (front n rows))

-- what the code reads past the end
abbrev pub blank : UserDefined
blank = record { name = record { ref_ptr = (0, 0); now = [] }; value = seen.True }

pub no_number : (v : Lent) → ((n : ℕ) → v ≡ seen.Number n → ⊥) → number_part (content_seen v) ≡ []
no_number seen.True other = refl
no_number (seen.Number n) other = absurd (other n refl)
no_number (seen.Text t) other = refl
no_number seen.Cancelled other = refl

pub no_text : (v : Lent) → ((t : Bor (List ℕ)) → v ≡ seen.Text t → ⊥) → text_part (content_seen v) ≡ []
no_text seen.True other = refl
no_text (seen.Number n) other = refl
no_text (seen.Text t) other = absurd (other t refl)
no_text seen.Cancelled other = refl

pub number_here : (rows : List UserDefined) (k n : ℕ) (d : UserDefined) → k < length rows → (get_or rows k d).value ≡ seen.Number n
    → numbers (front (k + 1) rows) ≡ numbers (front k rows) ++ n ∷ []
number_here rows k n d lt is = parts_more (λ v. number_part v.1) rows k d lt ∙ ap (λ v. numbers (front k rows) ++ number_part (content_seen v)) is

pub text_here : (rows : List UserDefined) (k : ℕ) (t : Bor (List ℕ)) (d : UserDefined) → k < length rows → (get_or rows k d).value ≡ seen.Text t
    → TextNext rows k t.now
text_here rows k t d lt is = text_next rows k d t.now lt (ap (λ v. text_part (content_seen v)) is)
