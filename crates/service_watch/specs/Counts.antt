-- What is counted. A number stays at 2^64 - 1 once it is there.
use Rattle.std.specs.Prelude.{ℕ, ◌+◌, ◌-◌, ◌^◌, Bool, min, nat_le, List, [], ◌∷◌, ◌++◌, map, position, slice_set, slice_index_or, bytes_eq, nat_eq, ◌&&◌, Option, Some, None, if◌then◌else◌}
use Rattle.service_watch.specs.declared.counts.Bucket.{Bucket}
use Rattle.service_watch.specs.declared.counts.Histogram.{Histogram}
use Rattle.service_watch.specs.declared.counts.NamedCount.{NamedCount}
use Rattle.service_watch.specs.declared.counts.ReplyCount.{ReplyCount}

-- so many more, up to the greatest number
abbrev pub more : ℕ → ℕ → ℕ
more n count = min (count + n) (2 ^ 64 - 1)

-- in microseconds: the bounds of 0.5 ms to 10 s that Prometheus' libraries take
abbrev pub bounds : List ℕ
bounds =
    500 ∷ 1000 ∷ 2500 ∷ 5000 ∷ 10000 ∷ 25000 ∷ 50000 ∷ 100000 ∷ 250000 ∷ 500000 ∷ 1000000 ∷ 2500000 ∷ 5000000 ∷ 10000000 ∷ []

-- a bucket counts what is not above its bound, so each counts what the smaller ones do
abbrev pub bucket_with : ℕ → Bucket → Bucket
bucket_with micros b = if nat_le micros b.bound then record b { count = more 1 b.count } else b

abbrev pub histogram_with : ℕ → Histogram → Histogram
histogram_with micros h = record {
  buckets = map (bucket_with micros) h.buckets;
  micros = more micros h.micros;
  count = more 1 h.count;
}

abbrev pub empty_histogram : Histogram
empty_histogram = record { buckets = map (λ bound. record { bound = bound; count = 0 }) bounds; micros = 0; count = 0 }

-- ---- rows by names: one more in the row of that name, or a new row behind the others

abbrev pub is_named : List ℕ → NamedCount → Bool
is_named name row = bytes_eq row.name name

abbrev pub named_at : List ℕ → Option ℕ → List NamedCount → List NamedCount
named_at name None rows = rows ++ (record { name = name; count = 1 }) ∷ []
named_at name (Some i) rows =
    let row = slice_index_or rows i (record { name = name; count = 0 }) in
    slice_set rows i (record row { count = more 1 row.count })

abbrev pub named_with : List ℕ → List NamedCount → List NamedCount
named_with name rows = named_at name (position (is_named name) rows) rows

abbrev pub is_reply_of : List ℕ → ℕ → ReplyCount → Bool
is_reply_of method status row = nat_eq row.status status && bytes_eq row.method method

abbrev pub replies_at : List ℕ → ℕ → Option ℕ → List ReplyCount → List ReplyCount
replies_at method status None rows = rows ++ (record { method = method; status = status; count = 1 }) ∷ []
replies_at method status (Some i) rows =
    let row = slice_index_or rows i (record { method = method; status = status; count = 0 }) in
    slice_set rows i (record row { count = more 1 row.count })

abbrev pub replies_with : List ℕ → ℕ → List ReplyCount → List ReplyCount
replies_with method status rows = replies_at method status (position (is_reply_of method status) rows) rows
