use Rattle.std.proofs.Common.{Ok, Err, sym, subst}
use Rattle.mt_open.specs.Opening.{OpensStores}
use Rattle.mt_open.proofs.OpeningLaws.{old_not_read, new_not_read, both_read, told_emptied}
use Rattle.mt_open.proofs.opening.open_stores.Goals as goal

pub returns-in-Ok-table_of : goal.returns-in-Ok-table_of
returns-in-Ok-table_of g c =
    let s = g.K.Keeper.state c.args.old_store.now in
    let s' = g.K.Keeper.state c.args.new_store.now in
    let t = g.K.Keeper.state c.hold.new.keeper in
    let t' = g.K.Keeper.state c.hold-2.new.keeper in
    record {
      opens = both_read s s' t t' c.in-Ok.old c.in-Ok-hold.new (Ok c.in-Ok-table_of.table) c.in-Ok.ensures c.in-Ok-hold.ensures c.in-Ok-table_of.ensures;
      emptied = told_emptied s t c.in-Ok.old c.is_emptied-is_old_emptied.result c.in-Ok.ensures c.is_emptied-is_old_emptied.ensures;
    }

pub returns : goal.returns
returns g c =
    let s = g.K.Keeper.state c.args.old_store.now in
    let s' = g.K.Keeper.state c.args.new_store.now in
    let t = g.K.Keeper.state c.hold.new.keeper in
    let t' = g.K.Keeper.state c.hold-2.new.keeper in
    record {
      opens = both_read s s' t t' c.in-Ok.old c.in-Ok-hold.new (Err c.in-Err-table_of.fault) c.in-Ok.ensures c.in-Ok-hold.ensures c.in-Err-table_of.ensures;
      emptied = tt;
    }

pub returns-in-Err : goal.returns-in-Err
returns-in-Err g c =
    let s = g.K.Keeper.state c.args.old_store.now in
    let s' = g.K.Keeper.state c.args.new_store.now in
    let t = g.K.Keeper.state c.hold.new.keeper in
    subst (λ e. OpensStores s s' (Err e) t s') (sym c.fault_of.ensures) (record { opens = old_not_read s s' t c.in-Err.fault c.in-Err.ensures; emptied = tt })

pub returns-in-Err-hold : goal.returns-in-Err-hold
returns-in-Err-hold g c =
    let s = g.K.Keeper.state c.args.old_store.now in
    let s' = g.K.Keeper.state c.args.new_store.now in
    let t = g.K.Keeper.state c.hold.new.keeper in
    let t' = g.K.Keeper.state c.hold-2.new.keeper in
    subst (λ e. OpensStores s s' (Err e) t t') (sym c.fault_of-in-Err-hold.ensures) (record { opens = new_not_read s s' t t' c.in-Ok.old c.in-Err-hold.fault c.in-Ok.ensures c.in-Err-hold.ensures; emptied = tt })
