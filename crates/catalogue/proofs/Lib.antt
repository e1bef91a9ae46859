pub mod CatalogueAnswers
