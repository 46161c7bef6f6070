use Rattle.std.proofs.Common.{◌≡◌, ℕ, ◌+◌, ◌<◌, ◌≤◌, true, false, List, [], ◌∷◌, ◌++◌, append_assoc, append-nil, filter, map, drop, refl, sym, ap, ◌∙◌, arith}
use Rattle.std.proofs.Math.Seq.{drop-length}
use Rattle.std.proofs.lemmas.Grind.{common_steps}
use Rattle.base_slots.specs.Settled.{fault_at}
use Rattle.ti_source.specs.Code.{is_of_header}
use Rattle.ti_source.specs.Reading.{ReadFault, fault_of}
use Rattle.base_meaning.specs.Faults.{SourceFault, faults_before, faults_from, is_kept, local_fault}
use Rattle.base_plan.proofs.ItemLists.{map-drop_item}
use Rattle.base_plan.proofs.faults.add_before.Goals as goal
use Rattle.base_plan.proofs.faults.add_before.Goals.{then-not-is_of_header+else-local-ordinal+in_ok-add_local, else-not-is_of_header}

abbrev of_items : List ReadFault → List ReadFault
of_items faults = filter (is_kept false) faults

-- what is added of these faults: those before an item at that ordinal
abbrev added : ℕ → ℕ → List ReadFault → List SourceFault
added at ordinal faults = map (local_fault at) (faults_before ordinal (of_items faults))

skipped : (f : ReadFault) (rest : List ReadFault) → is_of_header f.code ≡ true → of_items (f ∷ rest) ≡ of_items rest
skipped f rest e = rw e refl

taken : (f : ReadFault) (rest : List ReadFault) → is_of_header f.code ≡ false → of_items (f ∷ rest) ≡ f ∷ of_items rest
taken f rest e = rw e refl

one_before : (ordinal : ℕ) (f : ReadFault) (rest : List ReadFault) → f.ordinal < ordinal → faults_before ordinal (f ∷ rest) ≡ f ∷ faults_before ordinal rest
one_before ordinal f rest l = grind (arith, common_steps)

none_before : (ordinal : ℕ) (f : ReadFault) (rest : List ReadFault) → ordinal ≤ f.ordinal → faults_before ordinal (f ∷ rest) ≡ []
none_before ordinal f rest l = grind (arith, common_steps)

later_from : (ordinal : ℕ) (f : ReadFault) (rest : List ReadFault) → f.ordinal < ordinal → faults_from ordinal (f ∷ rest) ≡ faults_from ordinal rest
later_from ordinal f rest l = grind (arith, common_steps)

all_from : (ordinal : ℕ) (f : ReadFault) (rest : List ReadFault) → ordinal ≤ f.ordinal → faults_from ordinal (f ∷ rest) ≡ f ∷ rest
all_from ordinal f rest l = grind (arith, common_steps)

-- one more fault is added, and those after it are to be added as before
more_added : (at ordinal : ℕ) (f : ReadFault) (rest : List ReadFault) (old new all : List SourceFault) → is_of_header f.code ≡ false → f.ordinal < ordinal
    → old ++ added at ordinal (f ∷ rest) ≡ all → new ≡ old ++ local_fault at f ∷ [] → new ++ added at ordinal rest ≡ all
more_added at ordinal f rest old new all e l h n =
    let parts : added at ordinal (f ∷ rest) ≡ local_fault at f ∷ added at ordinal rest =
    ap (map (local_fault at)) (ap (faults_before ordinal) (taken f rest e) ∙ one_before ordinal f (of_items rest) l) in
    rw (n, append_assoc) (ap (λ x. old ++ x) (sym parts) ∙ h)

none_added : (at ordinal : ℕ) (f : ReadFault) (rest : List ReadFault) (old all : List SourceFault) → is_of_header f.code ≡ false → ordinal ≤ f.ordinal
    → old ++ added at ordinal (f ∷ rest) ≡ all → old ≡ all
none_added at ordinal f rest old all e l h =
    let none : added at ordinal (f ∷ rest) ≡ [] =
    ap (map (local_fault at)) (ap (faults_before ordinal) (taken f rest e) ∙ none_before ordinal f (of_items rest) l) in
    sym (append-nil old) ∙ (ap (λ x. old ++ x) (sym none) ∙ h)

next_within : (i n : ℕ) → i < n → i + 1 ≤ n
next_within i n l = omega arith

pub loop-place-preserved : goal.loop-place-preserved
loop-place-preserved g c =
    let f = fault_of c.index-locals-place.result in
    let rest = map fault_of (drop (c.loop-place.place + 1) c.args.locals.now) in
    let here = map-drop_item fault_of c.args.locals.now c.loop-place.place c.index-locals-place.result c.loop-place-test.true c.index-locals-place.is in
    let before = rw here at c.loop-place.invariant in
    elim c.if-not-is_of_header.branch [
      | then-not-is_of_header+else-local-ordinal+in_ok-add_local w ↦
          let e : is_of_header f.code ≡ false = sym w.if-not-is_of_header.ensures in
          rw w.faults-is (
            more_added g.at c.args.ordinal f rest _ _ _ e w.if-local-ordinal.false before.0 w.in_ok-add_local.ensures,
            sym (ap (faults_from c.args.ordinal) (taken f rest e) ∙ later_from c.args.ordinal f (of_items rest) w.if-local-ordinal.false) ∙ before.1,
            next_within c.loop-place.place _ c.loop-place-test.true,
          )
      | else-not-is_of_header w ↦
          let e : is_of_header f.code ≡ true = sym w.if-not-is_of_header.ensures in
          rw (w.faults-is, ← skipped f rest e) (before.0, before.1, next_within c.loop-place.place _ c.loop-place-test.true)
    ]

pub returns-then-local-ordinal : goal.returns-then-local-ordinal
returns-then-local-ordinal g c =
    let f = fault_of c.index-locals-place.result in
    let rest = map fault_of (drop (c.loop-place.place + 1) c.args.locals.now) in
    let here = map-drop_item fault_of c.args.locals.now c.loop-place.place c.index-locals-place.result c.loop-place-test.true c.index-locals-place.is in
    let before = rw here at c.loop-place.invariant in
    let e : is_of_header f.code ≡ false = sym c.if-not-is_of_header.ensures in
    record {
      within = c.loop-place.invariant.2;
      added = none_added g.at c.args.ordinal f rest _ _ e c.if-local-ordinal.true before.0;
      rest = (ap of_items here ∙ taken f rest e)
          ∙ (sym (ap (faults_from c.args.ordinal) (taken f rest e) ∙ all_from c.args.ordinal f (of_items rest) c.if-local-ordinal.true) ∙ before.1);
    }

at_end : (n i : ℕ) → n ≤ i → i ≤ n → i ≡ n
at_end n i l m = omega arith

pub returns-clause-rest : goal.returns-clause-rest
returns-clause-rest g c =
    let locals = c.args.locals.now in
    let before = rw (at_end _ _ c.loop-place-test.false c.loop-place.invariant.2, drop-length locals) at c.loop-place.invariant in
    rw (drop-length locals) before.1

pub returns-clause-added : goal.returns-clause-added
returns-clause-added g c =
    let before = rw (at_end _ _ c.loop-place-test.false c.loop-place.invariant.2, drop-length c.args.locals.now) at c.loop-place.invariant in
    sym (append-nil (map (fault_at g.at) c.loop-place.faults.items)) ∙ before.0
