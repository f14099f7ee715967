-- What stands on a page after several pieces were put.
use Rattle.std.proofs.Common.{◌≡◌, ℕ, List, ◌++◌, ap, ◌∙◌, append_assoc}

-- one more piece
pub joined : (page front piece before after : List ℕ) → before ≡ page ++ front → after ≡ before ++ piece → after ≡ page ++ (front ++ piece)
joined page front piece before after h k = k ∙ ap (λ l. l ++ piece) h ∙ append_assoc page front piece

-- the pieces of a path's line, put one by one
pub path_joined : (page name files tenant slash id end : List ℕ)
    → ((((page ++ (name ++ files)) ++ tenant) ++ slash) ++ id) ++ end ≡ page ++ ((name ++ (((files ++ tenant) ++ slash) ++ id)) ++ end)
path_joined page name files tenant slash id end = simp append_assoc

-- the pieces of a file's name between two others
pub name_joined : (page front name end : List ℕ) → ((page ++ front) ++ name) ++ end ≡ page ++ ((front ++ name) ++ end)
name_joined page front name end = simp append_assoc

-- the pieces of the line of a file
pub file_joined : (page name kind told end : List ℕ) → (((page ++ name) ++ kind) ++ told) ++ end ≡ page ++ ((name ++ (kind ++ told)) ++ end)
file_joined page name kind told end = simp append_assoc

-- the pieces of the line of a range, and of one that has no bytes
pub range_joined : (page name unit first hyphen last slash len end : List ℕ)
    → ((((((page ++ (name ++ unit)) ++ first) ++ hyphen) ++ last) ++ slash) ++ len) ++ end ≡ page ++ ((name ++ (((((unit ++ first) ++ hyphen) ++ last) ++ slash) ++ len)) ++ end)
range_joined page name unit first hyphen last slash len end = simp append_assoc

pub none_joined : (page name unit len end : List ℕ) → ((page ++ (name ++ unit)) ++ len) ++ end ≡ page ++ ((name ++ (unit ++ len)) ++ end)
none_joined page name unit len end = simp append_assoc
