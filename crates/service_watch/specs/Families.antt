-- The families of numbers that are told, in their order.
use Rattle.std.specs.Prelude.{ℕ, List, [], ◌∷◌, ◌++◌, codes, Option, Some, None}
use Rattle.std.specs.List.{flat_map}
use Rattle.service_watch.specs.Metrics.{Family, by_name, by_reply, counter, family_text, gauge, histogram, of_tenants, seconds_counter}
use Rattle.service_watch.specs.Snapshot.{Snapshot}
use Rattle.service_watch.specs.declared.counts.Histogram.{Histogram}
use Rattle.service_watch.specs.declared.counts.NamedCount.{NamedCount}
use Rattle.service_watch.specs.declared.counts.ReplyCount.{ReplyCount}
use Rattle.service_watch.specs.declared.snapshot.JournalNumbers.{JournalNumbers}
use Rattle.service_watch.specs.declared.snapshot.TenantNumbers.{TenantNumbers}

unfoldable pub requests : List ReplyCount → Family
requests = by_reply (codes "cadrusmo_requests_total") (codes "Replies by method in force and status.")

unfoldable pub refusals : List NamedCount → Family
refusals = by_name (codes "cadrusmo_refusals_total") (codes "Refusals by word.") (codes "word")

unfoldable pub request_seconds : Histogram → Family
request_seconds = histogram (codes "cadrusmo_request_seconds") (codes "Seconds from the first byte of a request to its reply.")

unfoldable pub received_bytes : ℕ → Family
received_bytes = counter (codes "cadrusmo_received_bytes_total") (codes "Bytes read from clients.")

unfoldable pub sent_bytes : ℕ → Family
sent_bytes = counter (codes "cadrusmo_sent_bytes_total") (codes "Bytes written to clients.")

unfoldable pub connections_accepted : ℕ → Family
connections_accepted = counter (codes "cadrusmo_connections_accepted_total") (codes "Connections accepted.")

unfoldable pub connections_cut : List NamedCount → Family
connections_cut = by_name (codes "cadrusmo_connections_cut_total") (codes "Connections cut off by reason.") (codes "reason")

unfoldable pub connections_open : ℕ → Family
connections_open = gauge (codes "cadrusmo_connections_open") (codes "Connections open.")

unfoldable pub tenant_blocks : List TenantNumbers → Family
tenant_blocks = of_tenants (codes "cadrusmo_tenant_blocks") (codes "Blocks that a tenant pays.") (λ t. t.paid)

unfoldable pub tenant_quota : List TenantNumbers → Family
tenant_quota = of_tenants (codes "cadrusmo_tenant_quota_blocks") (codes "Blocks that a tenant may pay.") (λ t. t.quota)

unfoldable pub tenant_uploads : List TenantNumbers → Family
tenant_uploads = of_tenants (codes "cadrusmo_tenant_uploads") (codes "Uploads that a tenant has.") (λ t. t.uploads)

unfoldable pub blocks_free : ℕ → Family
blocks_free = gauge (codes "cadrusmo_blocks_free") (codes "Blocks that no upload holds.")

unfoldable pub blocks_charged : ℕ → Family
blocks_charged = counter (codes "cadrusmo_blocks_charged_total") (codes "Blocks charged to tenants.")

unfoldable pub blocks_released : ℕ → Family
blocks_released = counter (codes "cadrusmo_blocks_released_total") (codes "Blocks released by tenants.")

unfoldable pub sweeps : ℕ → Family
sweeps = counter (codes "cadrusmo_sweeps_total") (codes "Looks for uploads that have expired.")

unfoldable pub journal_syncs : ℕ → Family
journal_syncs = counter (codes "cadrusmo_journal_syncs_total") (codes "Syncs of records to the journal.")

unfoldable pub journal_records : ℕ → Family
journal_records = counter (codes "cadrusmo_journal_records_total") (codes "Records kept in the journal since the start.")

unfoldable pub journal_sync_seconds : ℕ → Family
journal_sync_seconds = seconds_counter (codes "cadrusmo_journal_sync_seconds_total") (codes "Seconds of appending records and syncing them.")

unfoldable pub journal_bytes : ℕ → Family
journal_bytes = gauge (codes "cadrusmo_journal_bytes") (codes "Bytes of the file of the journal that records fill.")

unfoldable pub journal_file_bytes : ℕ → Family
journal_file_bytes = gauge (codes "cadrusmo_journal_file_bytes") (codes "Bytes of the file of the journal, with the zeros ahead.")

unfoldable pub log_lines_lost : ℕ → Family
log_lines_lost = counter (codes "cadrusmo_log_lines_lost_total") (codes "Lines of the log that could not be written.")

unfoldable pub resident_memory : ℕ → Family
resident_memory = gauge (codes "process_resident_memory_bytes") (codes "Bytes of the process that are in memory.")

-- of a journal
unfoldable pub families_of_journal : JournalNumbers → List Family
families_of_journal n =
    journal_syncs n.syncs ∷ journal_records n.records ∷ journal_sync_seconds n.micros ∷ journal_bytes n.bytes
    ∷ journal_file_bytes n.file_bytes ∷ []

-- without a journal there are none
abbrev pub journal_families : Option JournalNumbers → List Family
journal_families None = []
journal_families (Some numbers) = families_of_journal numbers

-- where the system does not tell it, there is no such family
abbrev pub resident_families : Option ℕ → List Family
resident_families None = []
resident_families (Some bytes) = resident_memory bytes ∷ []

-- what is told of requests
unfoldable pub request_families : Snapshot → List Family
request_families s =
    requests s.counts.replies.items ∷ refusals s.counts.refusals.items ∷ request_seconds s.counts.seconds
    ∷ received_bytes s.counts.received ∷ sent_bytes s.counts.sent ∷ []

-- of connections
unfoldable pub connection_families : Snapshot → List Family
connection_families s =
    connections_accepted s.counts.accepted ∷ connections_cut s.counts.cuts.items ∷ connections_open s.connections ∷ []

-- of each tenant
unfoldable pub tenant_families : List TenantNumbers → List Family
tenant_families tenants = tenant_blocks tenants ∷ tenant_quota tenants ∷ tenant_uploads tenants ∷ []

-- of the store
unfoldable pub store_families : Snapshot → List Family
store_families s =
    blocks_free s.blocks_free ∷ blocks_charged s.blocks_charged ∷ blocks_released s.blocks_released
    ∷ sweeps s.counts.sweeps ∷ []

-- of the process
unfoldable pub process_families : Snapshot → List Family
process_families s = log_lines_lost s.counts.lost_lines ∷ resident_families s.resident

unfoldable pub metrics_text : Snapshot → List ℕ
metrics_text s =
    flat_map family_text (request_families s) ++ flat_map family_text (connection_families s)
    ++ flat_map family_text (tenant_families s.tenants) ++ flat_map family_text (store_families s)
    ++ flat_map family_text (journal_families s.journal) ++ flat_map family_text (process_families s)
