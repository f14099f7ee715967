-- The fields that count for the steps (tus 1.0.0, Headers; RFC 9110, section 8.3).
use Rattle.std.specs.Prelude.{ℕ, List, codes}
use Rattle.tus_steps.specs.declared.tus_fields.TusFields.{TusFields}

module _ {A : Type 0} where
  -- each by its name, in lower case
  abbrev pub fields_by : (List ℕ → A) → TusFields A
  fields_by named = record {
    version = named (codes "tus-resumable");
    length = named (codes "upload-length");
    defer = named (codes "upload-defer-length");
    offset = named (codes "upload-offset");
    metadata = named (codes "upload-metadata");
    concat = named (codes "upload-concat");
    checksum = named (codes "upload-checksum");
    media = named (codes "content-type");
  }

  -- this holds of each
  pub record EachField (P : A → Type 0) (f : TusFields A) : Type 0 where
    pub version : P f.version
    pub length : P f.length
    pub defer : P f.defer
    pub offset : P f.offset
    pub metadata : P f.metadata
    pub concat : P f.concat
    pub checksum : P f.checksum
    pub media : P f.media

-- what each is under a function
abbrev pub map_fields : {A B : Type 0} → (A → B) → TusFields A → TusFields B
map_fields f fields = record {
  version = f fields.version;
  length = f fields.length;
  defer = f fields.defer;
  offset = f fields.offset;
  metadata = f fields.metadata;
  concat = f fields.concat;
  checksum = f fields.checksum;
  media = f fields.media;
}
