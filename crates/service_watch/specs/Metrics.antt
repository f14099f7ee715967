-- Numbers in Prometheus' text format (version 0.0.4): families of samples.
use Rattle.std.specs.Prelude.{ℕ, ◌==◌, List, [], ◌∷◌, ◌++◌, map, codes, decimal, if◌then◌else◌}
use Rattle.std.specs.List.{flat_map}
use Rattle.service_watch.specs.Seconds.{seconds_text}
use Rattle.service_watch.specs.declared.counts.Bucket.{Bucket}
use Rattle.service_watch.specs.declared.counts.Histogram.{Histogram}
use Rattle.service_watch.specs.declared.counts.NamedCount.{NamedCount}
use Rattle.service_watch.specs.declared.counts.ReplyCount.{ReplyCount}
use Rattle.service_watch.specs.declared.exposition.Figure.{Figure}
use Rattle.service_watch.specs.declared.exposition.Figure.TheVariants.{Paid, Quota, Uploads}
use Rattle.service_watch.specs.declared.snapshot.TenantNumbers.{TenantNumbers}

-- ---- the format

-- a backslash, a quote and LF are written with a backslash
abbrev pub label_byte : ℕ → List ℕ
label_byte b =
    if b == 92 then 92 ∷ 92 ∷ []
    else if b == 34 then 92 ∷ 34 ∷ []
    else if b == 10 then 92 ∷ 110 ∷ []
    else b ∷ []

unfoldable pub label_value : List ℕ → List ℕ
label_value text = flat_map label_byte text

pub record Label : Type 0 where
  pub name : List ℕ
  pub value : List ℕ

unfoldable pub label_text : Label → List ℕ
label_text l = l.name ++ codes "=\"" ++ label_value l.value ++ codes "\""

-- labels in braces, with commas between them; nothing where there are none
unfoldable pub labels_text : List Label → List ℕ
labels_text [] = []
labels_text (l ∷ labels) = codes "{" ++ label_text l ++ flat_map (λ m. codes "," ++ label_text m) labels ++ codes "}"

-- one number of a family: what follows the family's name, the labels, and the number as text
pub record Sample : Type 0 where
  pub suffix : List ℕ
  pub labels : List Label
  pub value : List ℕ

-- a line of its own
unfoldable pub sample_text : List ℕ → Sample → List ℕ
sample_text name s = name ++ s.suffix ++ labels_text s.labels ++ codes " " ++ s.value ++ codes "\n"

pub record Family : Type 0 where
  pub name : List ℕ
  pub help : List ℕ
  pub kind : List ℕ
  pub samples : List Sample

-- what it means
unfoldable pub help_line : List ℕ → List ℕ → List ℕ
help_line name help = codes "# HELP " ++ name ++ codes " " ++ help ++ codes "\n"

-- of which kind it is
unfoldable pub type_line : List ℕ → List ℕ → List ℕ
type_line name kind = codes "# TYPE " ++ name ++ codes " " ++ kind ++ codes "\n"

unfoldable pub lead_text : List ℕ → List ℕ → List ℕ → List ℕ
lead_text name help kind = help_line name help ++ type_line name kind

-- two lines that lead it, and a line for each of its samples
abbrev pub family_text : Family → List ℕ
family_text f = lead_text f.name f.help f.kind ++ flat_map (sample_text f.name) f.samples

-- ---- samples

-- a number without labels
abbrev pub plain : ℕ → Sample
plain n = record { suffix = []; labels = []; value = decimal n }

-- microseconds without labels, as seconds
abbrev pub seconds_sample : ℕ → Sample
seconds_sample micros = record { suffix = []; labels = []; value = seconds_text micros }

-- a number under one label
abbrev pub labelled : List ℕ → List ℕ → ℕ → Sample
labelled name value n = record { suffix = []; labels = (record { name = name; value = value }) ∷ []; value = decimal n }

abbrev pub reply_labels : ReplyCount → List Label
reply_labels r =
    (record { name = codes "method"; value = r.method }) ∷ (record { name = codes "status"; value = decimal r.status }) ∷ []

abbrev pub reply_sample : ReplyCount → Sample
reply_sample r = record { suffix = []; labels = reply_labels r; value = decimal r.count }

abbrev pub named_sample : List ℕ → NamedCount → Sample
named_sample label r = labelled label r.name r.count

-- how many took no longer than a bound, which is told as text
abbrev pub bound_sample : List ℕ → ℕ → Sample
bound_sample bound n = record {
  suffix = codes "_bucket";
  labels = (record { name = codes "le"; value = bound }) ∷ [];
  value = decimal n;
}

-- the bound is told in seconds
abbrev pub bucket_sample : Bucket → Sample
bucket_sample b = bound_sample (seconds_text b.bound) b.count

abbrev pub sum_sample : ℕ → Sample
sum_sample micros = record { suffix = codes "_sum"; labels = []; value = seconds_text micros }

abbrev pub count_sample : ℕ → Sample
count_sample n = record { suffix = codes "_count"; labels = []; value = decimal n }

-- all of them, the seconds that they took together, and how many there were
abbrev pub histogram_ends : Histogram → List Sample
histogram_ends h = bound_sample (codes "+Inf") h.count ∷ sum_sample h.micros ∷ count_sample h.count ∷ []

-- ---- kinds

-- a number that only rises, and one that goes up and down
abbrev pub counter : List ℕ → List ℕ → ℕ → Family
counter name help n = record { name = name; help = help; kind = codes "counter"; samples = plain n ∷ [] }

abbrev pub gauge : List ℕ → List ℕ → ℕ → Family
gauge name help n = record { name = name; help = help; kind = codes "gauge"; samples = plain n ∷ [] }

-- microseconds that only rise, told in seconds
abbrev pub seconds_counter : List ℕ → List ℕ → ℕ → Family
seconds_counter name help micros = record { name = name; help = help; kind = codes "counter"; samples = seconds_sample micros ∷ [] }

-- a number that only rises, for each method and status
abbrev pub by_reply : List ℕ → List ℕ → List ReplyCount → Family
by_reply name help replies = record { name = name; help = help; kind = codes "counter"; samples = map reply_sample replies }

-- and for each value of one label
abbrev pub by_name : List ℕ → List ℕ → List ℕ → List NamedCount → Family
by_name name help label counts = record {
  name = name;
  help = help;
  kind = codes "counter";
  samples = map (named_sample label) counts;
}

abbrev pub histogram : List ℕ → List ℕ → Histogram → Family
histogram name help h = record {
  name = name;
  help = help;
  kind = codes "histogram";
  samples = map bucket_sample h.buckets ++ histogram_ends h;
}

-- one of a tenant's numbers
abbrev pub figure : Figure → TenantNumbers → ℕ
figure Paid t = t.paid
figure Quota t = t.quota
figure Uploads t = t.uploads

-- a number for each tenant
abbrev pub of_tenants : List ℕ → List ℕ → (TenantNumbers → ℕ) → List TenantNumbers → Family
of_tenants name help number tenants = record {
  name = name;
  help = help;
  kind = codes "gauge";
  samples = map (λ t. labelled (codes "tenant") t.name (number t)) tenants;
}
