use Rattle.std.proofs.Common.{◌≤◌, ◌-◌, ℕ, length, refl, ap, arith}
use Rattle.source_document.proofs.Fitting.{part_short}
use Rattle.source_document.proofs.PartsExchanged.{Parts, leads_further, leads_on, longer_made, put_within, shorter_made}
use Rattle.source_document.proofs.exchanging.exchange.Goals as goal

pub replace_each-requires-clause-short : goal.replace_each-requires-clause-short
replace_each-requires-clause-short c = part_short c.args.texts.now c.args.front _ c.requires.short

pub replace_each-requires-else-out-put-clause-short : goal.replace_each-requires-else-out-put-clause-short
replace_each-requires-else-out-put-clause-short c = part_short c.args.texts.now c.args.front _ c.requires.short

pub insert_each-requires-clause-short : goal.insert_each-requires-clause-short
insert_each-requires-clause-short c = part_short c.args.texts.now _ _ c.requires.short

pub returns-in_ok-remove_each-clause-made : goal.returns-in_ok-remove_each-clause-made
returns-in_ok-remove_each-clause-made c =
    let put = length c.args.texts.now - c.args.front - c.args.back in
    let out = c.len.result - c.args.front - c.args.back in
    let p : Parts c.args.database.now c.args.texts.now c.args.front c.args.back put out =
    record {
      at_front = c.requires.at_front;
      at_back = c.requires.at_back;
      put_is = refl;
      out_is =
          ap (λ (n : ℕ). n - c.args.front - c.args.back) c.len.ensures;
    } in
    let less : put ≤ out = omega arith in
    shorter_made c.args.database.now c.replace_each.new.database c.remove_each.new.database c.args.texts.now c.args.front c.args.back put out p less
    c.in_ok-replace_each.ensures.made c.in_ok-remove_each.ensures.made

pub returns-in_ok-remove_each-clause-lead : goal.returns-in_ok-remove_each-clause-lead
returns-in_ok-remove_each-clause-lead c =
    let put = length c.args.texts.now - c.args.front - c.args.back in
    let out = c.len.result - c.args.front - c.args.back in
    let p : Parts c.args.database.now c.args.texts.now c.args.front c.args.back put out =
    record {
      at_front = c.requires.at_front;
      at_back = c.requires.at_back;
      put_is = refl;
      out_is =
          ap (λ (n : ℕ). n - c.args.front - c.args.back) c.len.ensures;
    } in
    let less : put ≤ out = omega arith in
    leads_on c.args.database.now c.replace_each.new.database c.remove_each.new.database c.args.texts.now c.args.front put out
    (put_within c.args.database.now c.args.texts.now c.args.front c.args.back put out p) less c.in_ok-replace_each.ensures.lead c.in_ok-remove_each.ensures.lead

pub returns-in_ok-insert_each-clause-made : goal.returns-in_ok-insert_each-clause-made
returns-in_ok-insert_each-clause-made c =
    let put = length c.args.texts.now - c.args.front - c.args.back in
    let out = c.len.result - c.args.front - c.args.back in
    let p : Parts c.args.database.now c.args.texts.now c.args.front c.args.back put out =
    record {
      at_front = c.requires.at_front;
      at_back = c.requires.at_back;
      put_is = refl;
      out_is =
          ap (λ (n : ℕ). n - c.args.front - c.args.back) c.len.ensures;
    } in
    let less : out ≤ put = omega arith in
    longer_made c.args.database.now c.replace_each-else-out-put.new.database c.insert_each.new.database c.args.texts.now c.args.front c.args.back put out p less
    c.in_ok-replace_each-2.ensures.made c.in_ok-insert_each.ensures.made

pub returns-in_ok-insert_each-clause-lead : goal.returns-in_ok-insert_each-clause-lead
returns-in_ok-insert_each-clause-lead c =
    let put = length c.args.texts.now - c.args.front - c.args.back in
    let out = c.len.result - c.args.front - c.args.back in
    let p : Parts c.args.database.now c.args.texts.now c.args.front c.args.back put out =
    record {
      at_front = c.requires.at_front;
      at_back = c.requires.at_back;
      put_is = refl;
      out_is =
          ap (λ (n : ℕ). n - c.args.front - c.args.back) c.len.ensures;
    } in
    let less : out ≤ put = omega arith in
    leads_further c.args.database.now c.replace_each-else-out-put.new.database c.insert_each.new.database c.args.texts.now c.args.front out put
    (put_within c.args.database.now c.args.texts.now c.args.front c.args.back put out p) less c.in_ok-replace_each-2.ensures.lead
    c.in_ok-insert_each.ensures.lead
