-- What the edits of the parts that differ come to.
use Rattle.std.proofs.Common.{◌≡◌, ℕ, ◌+◌, ◌-◌, ◌≤◌, Bor, List, ◌++◌, drop, length, map, take, ap, ap₂, subst, ◌∙◌, arith}
use Rattle.std.specs.List.{slice_range}
use Rattle.std.proofs.lemmas.List.{length-map}
use Rattle.source_document.specs.Exchanges.{AtBack, AtFront, EditsLead}
use Rattle.source_document.proofs.ListEdits.{edits_then, made_longer, made_shorter}
use Rattle.source_document.proofs.TextLists.{length_part, part_is, text_of}

-- the parts that differ, in both lists
pub record Parts (old : List (List ℕ)) (texts : List (Bor (List ℕ))) (front back put out : ℕ) : Type 0 where
  pub at_front : AtFront old (map text_of texts) front
  pub at_back : AtBack old (map text_of texts) front back
  pub put_is : put ≡ length texts - front - back
  pub out_is : out ≡ length old - front - back

-- they are within
pub put_within : (old : List (List ℕ)) (texts : List (Bor (List ℕ))) (front back put out : ℕ) → Parts old texts front back put out → front + put ≤ length texts
put_within old texts front back put out p = let there = p.at_back.there in omega (arith, there, p.put_is, length-map texts text_of)

pub out_within : (old : List (List ℕ)) (texts : List (Bor (List ℕ))) (front back put out : ℕ) → Parts old texts front back put out → front + out ≤ length old
out_within old texts front back put out p = let held = p.at_back.held in omega (arith, held, p.out_is)

-- the part of the texts, as a list of texts
part_made : (old : List (List ℕ)) (texts : List (Bor (List ℕ))) (front n : ℕ) → front + n ≤ length texts
    → take front old ++ map text_of (slice_range texts front (front + n)) ++ drop (front + length (slice_range texts front (front + n))) old
    ≡ take front old ++ take n (drop front (map text_of texts)) ++ drop (front + n) old
part_made old texts front n within =
    ap₂ (λ (part : List (List ℕ)) (len : ℕ). take front old ++ part ++ drop (front + len) old) (part_is texts front n) (length_part texts front n within)

pub shorter_made : (old mid last : List (List ℕ)) (texts : List (Bor (List ℕ))) (front back put out : ℕ) → Parts old texts front back put out → put ≤ out
    → mid ≡ take front old ++ map text_of (slice_range texts front (front + put)) ++ drop (front + length (slice_range texts front (front + put))) old
    → last ≡ take (front + put) mid ++ drop (front + put + (out - put)) mid → last ≡ map text_of texts
shorter_made old mid last texts front back put out p less e f =
    made_shorter old (map text_of texts) mid last front back put out p.at_front p.at_back (omega (arith, p.put_is, length-map texts text_of)) p.out_is less
    (e ∙ part_made old texts front put (put_within old texts front back put out p)) f

pub longer_made : (old mid last : List (List ℕ)) (texts : List (Bor (List ℕ))) (front back put out : ℕ) → Parts old texts front back put out → out ≤ put
    → mid ≡ take front old ++ map text_of (slice_range texts front (front + out)) ++ drop (front + length (slice_range texts front (front + out))) old
    → last ≡ take (front + out) mid ++ map text_of (slice_range texts (front + out) (front + put)) ++ drop (front + out) mid → last ≡ map text_of texts
longer_made old mid last texts front back put out p less e f =
    let within = put_within old texts front back put out p in
    let end : front + put ≡ front + out + (put - out) = omega (arith, less) in
    let rest : map text_of (slice_range texts (front + out) (front + put)) ≡ take (put - out) (drop (front + out) (map text_of texts)) =
    ap (λ i. map text_of (slice_range texts (front + out) i)) end ∙ part_is texts (front + out) (put - out) in
    made_longer old (map text_of texts) mid last front back put out p.at_front p.at_back (omega (arith, p.put_is, length-map texts text_of)) p.out_is less
    (e ∙ part_made old texts front out (omega (arith, within, less)))
    (f ∙ ap (λ (part : List (List ℕ)). take (front + out) mid ++ part ++ drop (front + out) mid) rest)

-- so many edits lead there
pub leads_on : (old mid last : List (List ℕ)) (texts : List (Bor (List ℕ))) (front first all : ℕ) → front + first ≤ length texts → first ≤ all
    → EditsLead (length (slice_range texts front (front + first))) old mid → EditsLead (all - first) mid last → EditsLead all old last
leads_on old mid last texts front first all within less lead more =
    let sum : first + (all - first) ≡ all = omega (arith, less) in
    subst (λ (n : ℕ). EditsLead n old last) sum
    (edits_then first (all - first) old mid last (subst (λ (n : ℕ). EditsLead n old mid) (length_part texts front first within) lead) more)

pub leads_further : (old mid last : List (List ℕ)) (texts : List (Bor (List ℕ))) (front first all : ℕ) → front + all ≤ length texts → first ≤ all
    → EditsLead (length (slice_range texts front (front + first))) old mid → EditsLead (length (slice_range texts (front + first) (front + all))) mid last
    → EditsLead all old last
leads_further old mid last texts front first all within less lead more =
    let end : front + all ≡ front + first + (all - first) = omega (arith, less) in
    let len : length (slice_range texts (front + first) (front + all)) ≡ all - first =
    ap (λ i. length (slice_range texts (front + first) i)) end ∙ length_part texts (front + first) (all - first) (omega (arith, within, less)) in
    leads_on old mid last texts front first all (omega (arith, within, less)) less lead (subst (λ (n : ℕ). EditsLead n mid last) len more)
