-- each table is the order by name of its kind
use Rattle.ti_caps.proofs.KindOrder.{flags_by_name, numbers_by_name, texts_by_name}
use Rattle.ti_caps.proofs.name_order.indexes_by_name.Goals as goal

pub returns-in-Flag : goal.returns-in-Flag
returns-in-Flag c = rw c.in-Flag.is flags_by_name

pub returns-in-Number : goal.returns-in-Number
returns-in-Number c = rw c.in-Number.is numbers_by_name

pub returns-in-Text : goal.returns-in-Text
returns-in-Text c = rw c.in-Text.is texts_by_name
