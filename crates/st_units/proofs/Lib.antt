pub mod Sorting
pub mod UnitForms
pub mod FileForms
pub mod FileAnswers
pub mod FrontLaws
pub mod FrontAnswers
pub mod CommentTrees
pub mod TextLaws
