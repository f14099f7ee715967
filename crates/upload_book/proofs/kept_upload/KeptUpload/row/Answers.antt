use Rattle.std.proofs.Common.{ap}
use Rattle.upload_book.specs.declared.head_row.HeadRow.{HeadRow}
use Rattle.upload_book.specs.inside.Kept.{stored_tenant_of}
use Rattle.upload_book.proofs.Restoring.KeptUploads.{entry-read, row-is}
use Rattle.upload_book.proofs.Store.Pieces.{Contains-entry}
use Rattle.upload_book.proofs.kept_upload.KeptUpload.row.Goals as goal

pub returns-clause-kind : goal.returns-clause-kind
returns-clause-kind c =
    let k = c.self.inside in
    let t = stored_tenant_of k.stored_tenant.now in
    let entry = entry-read t k.place c.index.result.now c.self.invariant.there c.index.ensures in
    let told = c.head_row.ensures k.pool.now (λ x there. c.self.invariant.reads x (Contains-entry t k.place c.index.result.now x entry there)) in
    rw (← c.self.view_is) (ap (λ (r : HeadRow). r.kind) (row-is k.pool.now t k.place c.index.result.now c.head_row.result entry told))

pub returns-clause-declared : goal.returns-clause-declared
returns-clause-declared c =
    let k = c.self.inside in
    let t = stored_tenant_of k.stored_tenant.now in
    let entry = entry-read t k.place c.index.result.now c.self.invariant.there c.index.ensures in
    let told = c.head_row.ensures k.pool.now (λ x there. c.self.invariant.reads x (Contains-entry t k.place c.index.result.now x entry there)) in
    rw (← c.self.view_is) (ap (λ (r : HeadRow). r.declared) (row-is k.pool.now t k.place c.index.result.now c.head_row.result entry told))

pub returns-clause-metadata : goal.returns-clause-metadata
returns-clause-metadata c =
    let k = c.self.inside in
    let t = stored_tenant_of k.stored_tenant.now in
    let entry = entry-read t k.place c.index.result.now c.self.invariant.there c.index.ensures in
    let told = c.head_row.ensures k.pool.now (λ x there. c.self.invariant.reads x (Contains-entry t k.place c.index.result.now x entry there)) in
    rw (← c.self.view_is) (ap (λ (r : HeadRow). r.metadata) (row-is k.pool.now t k.place c.index.result.now c.head_row.result entry told))

pub returns-clause-concat : goal.returns-clause-concat
returns-clause-concat c =
    let k = c.self.inside in
    let t = stored_tenant_of k.stored_tenant.now in
    let entry = entry-read t k.place c.index.result.now c.self.invariant.there c.index.ensures in
    let told = c.head_row.ensures k.pool.now (λ x there. c.self.invariant.reads x (Contains-entry t k.place c.index.result.now x entry there)) in
    rw (← c.self.view_is) (ap (λ (r : HeadRow). r.concat) (row-is k.pool.now t k.place c.index.result.now c.head_row.result entry told))

pub returns-clause-expires : goal.returns-clause-expires
returns-clause-expires c =
    let k = c.self.inside in
    let t = stored_tenant_of k.stored_tenant.now in
    let entry = entry-read t k.place c.index.result.now c.self.invariant.there c.index.ensures in
    let told = c.head_row.ensures k.pool.now (λ x there. c.self.invariant.reads x (Contains-entry t k.place c.index.result.now x entry there)) in
    rw (← c.self.view_is) (ap (λ (r : HeadRow). r.expires) (row-is k.pool.now t k.place c.index.result.now c.head_row.result entry told))
